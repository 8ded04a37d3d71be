-- What the devices of a store have room for, and what words they hold.
use Rattle.std.proofs.Common.{ℕ, ◌+◌, ◌<◌, ◌≡◌, ◌∙◌, List, [], ◌∷◌, ◌++◌, length, map, get_or}
use Rattle.std.proofs.Common.{take, drop, refl, sym, ap, subst, arith}
use Rattle.std.specs.List.{range_with_len}
use Rattle.std.proofs.Math.Seq.{drop-append_seam, take-append_seam}
use Rattle.std.proofs.Math.ListN as lists
use Rattle.std.proofs.lemmas.Bool.Decides.{nat_tests}
use Rattle.std.proofs.lemmas.List.{get_or-drop, get_or-take, length-map}
use Rattle.cfs_pmem.specs.Images.{Seen, WordStep, devices_of, words_of}
use Rattle.cfs_pmem.specs.Objects.{all_devices}
use Rattle.cfs_block.specs.BlockImages.{BlockStep}
use Rattle.cfs_pmem.specs.declared.trace.Asked.{Asked}
use Rattle.cfs_block.specs.Devices.{Devices, numbers_of}
use Rattle.cfs_image.specs.Layout.{queues_of, region_words}
use Rattle.cfs_image.specs.Store.{IsSized, IsStore}
use Rattle.cfs_plan.specs.Readings.{AreReadOf}
use Rattle.cfs_recover.specs.Begins.{both}
use Rattle.cfs_recover.specs.Words.{HaveFirstWords, lengths_of}
use Rattle.cfs_replay.specs.Reading.{AreSlots, words_at}
use Rattle.cfs_store_words.specs.Held.{words_held}
use Rattle.cfs_store_words.specs.Leaves.{LeavesStore}
use Rattle.cfs_store_words.specs.Rows.{first_word, rows_from}
use Rattle.cfs_store_words.proofs.Stores.{fewest, row-len, slot-len}
use Rattle.cfs_survey.specs.Surveys.{Words}

some-words : (place : ℕ) → 0 < region_words place
some-words place = grind (arith, nat_tests)

size-held : (regions : List (Seen WordStep)) (node : ℕ) → node < 256 →
    get_or (words_at regions (67 + node)) 0 0
    ≡ get_or (map first_word (rows_from 67 256 regions)) node 0
size-held regions node less =
    sym (lists.get_or-map first_word (rows_from 67 256 regions) node []
    ∙ ap first_word (get_or-take 256 (drop 67 (map words_of regions)) node [] less
    ∙ (get_or-drop 67 (map words_of regions) node []
    ∙ lists.get_or-map words_of regions (67 + node)
    record { device = 0; also = []; history = [] })))

module _ {regions : List (Seen WordStep)} {blocks : List (Seen BlockStep)} {numbers : List ℕ}
    (store : IsStore regions blocks numbers) where
  pub place-in : 322 < length regions
  place-in = omega (arith, fewest store)

  pub are-slots : AreSlots regions
  are-slots at less = slot-len store at less

  pub have-words : HaveFirstWords regions
  have-words k less =
      subst (λ (n : ℕ). 0 < n) (sym (row-len store k less)) (some-words k)

  pub are-read : (words : Words) → words ≡ words_held regions blocks →
      AreReadOf words regions blocks
  are-read words is = subst (λ (these : Words). AreReadOf these regions blocks) (sym is) record {
    queues = queues_of (length regions);
    many = store.sized.whole_queues;
    sizes = λ node less. size-held regions node less;
    slots = refl;
    tags = refl;
  }

-- ---- a store stays one

module _ {X : Type 0} (xs ys zs ws : List X) (many : length xs ≡ length zs)
    (same : xs ++ ys ≡ zs ++ ws) where
  same-fronts : xs ≡ zs
  same-fronts =
      sym (take-append_seam xs ys)
      ∙ (ap (take (length xs)) same
      ∙ (ap (λ (n : ℕ). take n (zs ++ ws)) many ∙ take-append_seam zs ws))

  same-backs : ys ≡ ws
  same-backs =
      sym (drop-append_seam xs ys)
      ∙ (ap (drop (length xs)) same
      ∙ (ap (λ (n : ℕ). drop n (zs ++ ws)) many ∙ drop-append_seam zs ws))

own-device : {Form : Type 0} (seens : List (Seen Form)) →
    map (λ (ns : List ℕ). get_or ns 0 0) (all_devices seens)
    ≡ map (λ (seen : Seen Form). seen.device) seens
own-device [] = refl
own-device (seen ∷ seens) = ap (λ (ns : List ℕ). seen.device ∷ ns) (own-device seens)

same-own : {Form : Type 0} (olds news : List (Seen Form)) → all_devices news ≡ all_devices olds →
    map (λ (seen : Seen Form). seen.device) news ≡ map (λ (seen : Seen Form). seen.device) olds
same-own olds news same =
    sym (own-device news)
    ∙ (ap (map (λ (ns : List ℕ). get_or ns 0 0)) same ∙ own-device olds)

same-many : {Form : Type 0} (olds news : List (Seen Form)) → all_devices news ≡ all_devices olds →
    length news ≡ length olds
same-many olds news same =
    sym (length-map news devices_of)
    ∙ (ap (λ (ns : List (List ℕ)). length ns) same ∙ length-map olds devices_of)

-- where its devices are the same, and each has as many words as before
pub store-still : {olds news : List (Seen WordStep)} {blocks_old blocks_new : List (Seen BlockStep)}
    {numbers_old numbers_new : List ℕ} → IsStore olds blocks_old numbers_old →
    lengths_of news ≡ lengths_of olds →
    numbers_of (both news blocks_new) ≡ numbers_of (both olds blocks_old) →
    numbers_new ≡ numbers_old → IsStore news blocks_new numbers_new
store-still {olds} {news} {blocks_old} {blocks_new} {numbers_old} {numbers_new} store lengths
    devices numbers =
    let many : length news ≡ length olds =
    sym (length-map news (λ (region : Seen WordStep). length (words_of region)))
    ∙ (ap (λ (ns : List ℕ). length ns) lengths
    ∙ length-map olds (λ (region : Seen WordStep). length (words_of region))) in
    let listed : length (all_devices news) ≡ length (all_devices olds) =
    length-map news devices_of ∙ (many ∙ sym (length-map olds devices_of)) in
    let own = same-fronts (all_devices news) (all_devices blocks_new) (all_devices olds)
    (all_devices blocks_old) listed devices in
    let own_blocks = same-backs (all_devices news) (all_devices blocks_new) (all_devices olds)
    (all_devices blocks_old) listed devices in
    let some : length blocks_new ≡ length blocks_old =
    same-many blocks_old blocks_new own_blocks in
    record {
      sized = subst (λ (n : ℕ). IsSized n (length blocks_new)) (sym many)
          (subst (IsSized (length olds)) (sym some) store.sized);
      devices = same-own olds news own ∙ (store.devices ∙ ap (range_with_len 0) (sym many));
      sizes = lengths ∙ (store.sizes
          ∙ ap (λ (n : ℕ). map region_words (range_with_len 0 n)) (sym many));
      block_devices = same-own blocks_old blocks_new own_blocks
          ∙ (store.block_devices
          ∙ (ap (λ (n : ℕ). range_with_len n (length blocks_old)) (sym many)
          ∙ ap (range_with_len (length news)) (sym some)));
      own_numbers = numbers ∙ (store.own_numbers ∙ ap (range_with_len 0) (sym some));
    }

-- behind calls that only read, and others
pub store-after : {asked_old asked_mid : List Asked} {olds mids news : List (Seen WordStep)}
    {blocks_old blocks_mid blocks_new : List (Seen BlockStep)}
    {numbers_old numbers_mid numbers_new : List ℕ} → IsStore olds blocks_old numbers_old →
    LeavesStore asked_old (both olds blocks_old) asked_mid (both mids blocks_mid) →
    numbers_mid ≡ numbers_old → lengths_of news ≡ lengths_of mids →
    numbers_of (both news blocks_new) ≡ numbers_of (both mids blocks_mid) →
    numbers_new ≡ numbers_mid → IsStore news blocks_new numbers_new
store-after store leaves mid lengths devices numbers =
    store-still store
    (lengths ∙ ap (λ (these : Devices). lengths_of these.regions) leaves.same)
    (devices ∙ ap numbers_of leaves.same) (numbers ∙ mid)
