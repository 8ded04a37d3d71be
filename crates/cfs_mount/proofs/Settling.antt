-- What a crash leaves of a store's regions, where it leaves a single disk.
use Rattle.std.proofs.Common.{◌≡◌, ◌∙◌, ℕ, zero, suc, ◌+◌, ◌%◌, ◌<◌, ◌≤◌, List, [], ◌∷◌}
use Rattle.std.proofs.Common.{◌++◌, length, map, get_or, take, drop, set, sym, ap, subst, arith}
use Rattle.std.proofs.Common.{length-drop}
use Rattle.std.proofs.Math.ListN as lists
use Rattle.std.proofs.Math.Seq.{take-add}
use Rattle.std.proofs.lemmas.Bool.Decides.{nat_tests}
use Rattle.std.proofs.lemmas.List.{get_or-drop, get_or-set_same, get_or-take, length-map}
use Rattle.std.proofs.lemmas.List.{length-take-le, take-append-drop}
use Rattle.std.proofs.lemmas.List.FromFn.{get_or-map-range_with_len, get_or-range_with_len}
use Rattle.cfs_block.specs.BlockImages.{BlockStep}
use Rattle.cfs_home.specs.Calls.{HaveWordsOf}
use Rattle.cfs_home.specs.Disks.{Disk}
use Rattle.cfs_image.specs.Layout.{region_words}
use Rattle.cfs_image.specs.Store.{IsStore}
use Rattle.cfs_pmem.specs.AllMoments.{AreDistinct}
use Rattle.cfs_pmem.specs.Images.{AllImages, IsImage, IsSure, Seen, WordStep, words_of}
use Rattle.cfs_pmem.specs.Objects.{IsEachImage, all_devices, seen_at}
use Rattle.cfs_pmem.proofs.ImageLemmas.{now_is_image}
use Rattle.cfs_slot.specs.Words.{gate_of}
use Rattle.cfs_survey.specs.Surveys.{Words}
use Rattle.cfs_mount.specs.Front.{HoldFront}
use Rattle.cfs_mount.specs.Queues.{AreFreeSlots}
use Rattle.cfs_mount.specs.Settled.{AreReadOff, records_among, slots_among}
use Rattle.cfs_mount.specs.Settled.{tables_among}
use Rattle.cfs_mount.proofs.Distinct.{first_distinct}

abbrev none_there : Seen WordStep
none_there = record { device = 0; also = []; history = [] }

-- what reads now is an image, and so it is with another image of one region
pub words-now : (regions : List (Seen WordStep)) → IsEachImage IsImage regions (map words_of regions)
words-now [] = tt
words-now (region ∷ regions) = (now_is_image region.history, words-now regions)

each-set : (regions : List (Seen WordStep)) (images : List (List ℕ)) (k : ℕ) (image : List ℕ) →
    IsEachImage IsImage regions images → IsImage (seen_at regions k).history image →
    IsEachImage IsImage regions (set images k image)
each-set [] [] k image each is = tt
each-set [] (first ∷ images) k image each is = absurd each
each-set (region ∷ regions) [] k image each is = absurd each
each-set (region ∷ regions) (first ∷ images) zero image each is = (is, each.1)
each-set (region ∷ regions) (first ∷ images) (suc k) image each is =
    (each.0, each-set regions images k image each.1 is)

module _ (disk : Disk) (regions : List (Seen WordStep)) (have : HaveWordsOf disk regions) where
  -- all regions with this image of one of them
  with-image : ℕ → List ℕ → List (List ℕ)
  with-image k image = set (map words_of regions) k image

  at-image : (k : ℕ) (image : List ℕ) → k < length regions →
      get_or (with-image k image) k [] ≡ image
  unfolding with-image
  at-image k image low =
      get_or-set_same (map words_of regions) k image [] (omega (
        arith,
        low,
        length-map regions words_of,
      ))

  -- a crash leaves one list of words of each region of the front and of each slot
  pub front-image : (k : ℕ) → k < 67 → k < length regions →
      AllImages (seen_at regions k) (λ image. image ≡ get_or disk.front k [])
  unfolding with-image
  front-image k front low image possible =
      sym (at-image k image low) ∙ sym (get_or-take 67 (with-image k image) k [] front)
      ∙ ap (λ words. get_or words k [])
      (have (with-image k image)
      (each-set regions (map words_of regions) k image (words-now regions) possible)).front

  pub slot-image : (k : ℕ) → 323 + k < length regions →
      AllImages (seen_at regions (323 + k)) (λ image. image ≡ get_or disk.slots k [])
  unfolding with-image
  slot-image k low image possible =
      sym (at-image (323 + k) image low) ∙ sym (get_or-drop 323 (with-image (323 + k) image) k [])
      ∙ ap (λ words. get_or words k [])
      (have (with-image (323 + k) image)
      (each-set regions (map words_of regions) (323 + k) image (words-now regions) possible)).slots

  -- so it is what reads now
  pub front-now : (k : ℕ) → k < 67 → k < length regions →
      words_of (seen_at regions k) ≡ get_or disk.front k []
  front-now k front low =
      front-image k front low (words_of (seen_at regions k))
      (now_is_image (seen_at regions k).history)

  pub front-sure : (k : ℕ) → k < 67 → k < length regions → IsSure (seen_at regions k)
  front-sure k front low image possible =
      front-image k front low image possible ∙ sym (front-now k front low)

  pub front-length : 67 ≤ length regions → length disk.front ≡ 67
  front-length low =
      ap length (sym (have (map words_of regions) (words-now regions)).front)
      ∙ length-take-le 67 (map words_of regions) (omega (arith, low, length-map regions words_of))

module _ {regions : List (Seen WordStep)} {blocks : List (Seen BlockStep)} {numbers : List ℕ}
    (store : IsStore regions blocks numbers) where
  pub many : 339 ≤ length regions
  many = omega (arith, store.sized.whole_queues, store.sized.some_queue)

  pub length-at : (place : ℕ) → place < length regions →
      length (words_of (seen_at regions place)) ≡ region_words place
  length-at place less =
      sym (lists.get_or-map (λ (seen : Seen WordStep). length (words_of seen)) regions place
      record { device = 0; also = []; history = [] })
      ∙ (ap (λ (ns : List ℕ). get_or ns place 0) store.sizes
      ∙ get_or-map-range_with_len region_words 0 (length regions) place place 0 less (omega arith))

  pub device-at : (place : ℕ) → place < length regions → (seen_at regions place).device ≡ place
  device-at place less =
      sym (lists.get_or-map (λ (seen : Seen WordStep). seen.device) regions place
      record { device = 0; also = []; history = [] })
      ∙ (ap (λ (ns : List ℕ). get_or ns place 0) store.devices
      ∙ (get_or-range_with_len 0 (length regions) place 0 less ∙ omega arith))

table-words : (copy : ℕ) → copy < 2 → region_words (1 + copy) ≡ 3073
table-words copy less = grind (arith, nat_tests)

record-words : (k : ℕ) → k < 64 → region_words (3 + k) ≡ 16
record-words k less = grind (arith, nat_tests)

slot-words : (k : ℕ) → region_words (323 + k) ≡ 518
slot-words k = grind (arith, nat_tests)

-- where the parts stand

copy-at : (regions : List (Seen WordStep)) (copy : ℕ) → copy < 2 →
    seen_at (tables_among regions) copy ≡ seen_at regions (1 + copy)
copy-at regions copy less =
    get_or-take 2 (drop 1 regions) copy none_there less ∙ get_or-drop 1 regions copy none_there

record-at : (regions : List (Seen WordStep)) (k : ℕ) → k < 64 →
    seen_at (records_among regions) k ≡ seen_at regions (3 + k)
record-at regions k less =
    get_or-take 64 (drop 3 regions) k none_there less ∙ get_or-drop 3 regions k none_there

slot-at : (regions : List (Seen WordStep)) (k : ℕ) →
    seen_at (slots_among regions) k ≡ seen_at regions (323 + k)
slot-at regions k = get_or-drop 323 regions k none_there

front-list : (regions : List (Seen WordStep)) → 0 < length regions →
    (seen_at regions 0 ∷ tables_among regions) ++ records_among regions ≡ take 67 regions
front-list [] low = absurd (omega (arith, low))
front-list (region ∷ regions) low = sym (take-add 3 64 (region ∷ regions))

front-distinct : (regions : List (Seen WordStep)) → 0 < length regions →
    AreDistinct (all_devices regions) →
    AreDistinct (all_devices ((seen_at regions 0 ∷ tables_among regions) ++ records_among regions))
front-distinct regions low distinct =
    subst (λ seens. AreDistinct (all_devices seens)) (sym (front-list regions low))
    (first_distinct (take 67 regions) (drop 67 regions)
    (subst (λ seens. AreDistinct (all_devices seens)) (sym (take-append-drop 67 regions)) distinct))

module _ (words : Words) (disk : Disk) (regions : List (Seen WordStep))
    (blocks : List (Seen BlockStep)) (numbers : List ℕ) (store : IsStore regions blocks numbers)
    (have : HaveWordsOf disk regions) where
  journal-length : AreReadOff disk.front words → length words.journal ≡ 64
  journal-length read =
      ap length (sym read.journal)
      ∙ length-take-le 64 (drop 3 disk.front)
      (omega (
        arith,
        length-drop 3 disk.front,
        front-length disk regions have (omega (arith, many store)),
      ))

  record-read : AreReadOff disk.front words → (k : ℕ) → k < 64 →
      get_or disk.front (3 + k) [] ≡ get_or words.journal k []
  record-read read k less =
      sym (get_or-take 64 (drop 3 disk.front) k [] less ∙ get_or-drop 3 disk.front k [])
      ∙ ap (λ rows. get_or rows k []) read.journal

  pub front-settled : AreDistinct (all_devices regions) → AreReadOff disk.front words →
      HoldFront words (seen_at regions 0) (tables_among regions) (records_among regions)
  front-settled distinct read = record {
    word = λ image possible.
        front-image disk regions have 0 (omega arith) (omega (arith, many store)) image possible
        ∙ read.selector;
    copies = length-take-le 2 (drop 1 regions) (omega (arith, length-drop 1 regions, many store));
    long = λ copy less.
        ap (λ seen. length (words_of seen)) (copy-at regions copy less)
        ∙ length-at store (1 + copy) (omega (arith, less, many store))
        ∙ table-words copy less;
    sure = λ copy less.
        subst (λ seen. IsSure seen) (sym (copy-at regions copy less))
        (front-sure disk regions have (1 + copy) (omega (arith, less))
        (omega (arith, less, many store)));
    selected = ap (λ seen. words_of seen)
        (copy-at regions (words.selector % 2) (omega arith))
        ∙ front-now disk regions have (1 + words.selector % 2) (omega arith)
        (omega (arith, many store))
        ∙ read.table;
    journal = record {
      count = length-take-le 64 (drop 3 regions) (omega (arith, length-drop 3 regions, many store))
          ∙ sym (journal-length read);
      each = λ place less.
          let within : place < 64 = omega (arith, less, journal-length read) in
          subst (λ seen. AllImages seen (λ image. image ≡ get_or words.journal place []))
          (sym (record-at regions place within))
          (λ image possible.
          front-image disk regions have (3 + place) (omega (arith, within))
          (omega (arith, within, many store)) image possible
          ∙ record-read read place within);
    };
    sizes = λ position less.
        ap (λ seen. length (words_of seen)) (record-at regions position less)
        ∙ length-at store (3 + position) (omega (arith, less, many store))
        ∙ record-words position less;
    distinct = front-distinct regions (omega (arith, many store)) distinct;
  }

  pub slots-settled : ((at : ℕ) → gate_of (get_or disk.slots at []) ≡ 0) →
      AreFreeSlots 323 (drop 323 regions)
  slots-settled closed place less =
      let within : 323 + place < length regions =
      omega (arith, less, length-drop 323 regions) in
      record {
        own = ap (λ seen. seen.device) (slot-at regions place) ∙ device-at store (323 + place) within;
        size = ap (λ seen. length (words_of seen)) (slot-at regions place)
            ∙ length-at store (323 + place) within ∙ slot-words place;
        closed = subst (λ seen. AllImages seen (λ image. gate_of image ≡ 0))
            (sym (slot-at regions place))
            (λ image possible.
            ap (λ ws. gate_of ws) (slot-image disk regions have place within image possible)
            ∙ closed place);
      }
