-- What a store holds that was brought home.
use Rattle.std.proofs.Common.{◌≡◌, ◌∙◌, ℕ, ◌+◌, ◌%◌, List, [], ◌∷◌, length}
use Rattle.std.proofs.Common.{map, get_or, take, drop, subst, sym, ap, arith}
use Rattle.std.proofs.lemmas.List.{drop-take, take-take}
use Rattle.cfs_block.specs.BlockImages.{BlockStep}
use Rattle.cfs_home.specs.Calls.{HaveWordsOf}
use Rattle.cfs_home.specs.Disks.{Disk, File}
use Rattle.cfs_image.specs.Store.{IsStore}
use Rattle.cfs_pmem.specs.AllMoments.{AreDistinct}
use Rattle.cfs_pmem.specs.Images.{Seen, WordStep, words_of}
use Rattle.cfs_pmem.specs.Objects.{all_devices, seen_at}
use Rattle.cfs_recover.specs.Begins.{Stands}
use Rattle.cfs_replay.specs.Plans.{IsBroughtHome}
use Rattle.cfs_store_words.specs.Held.{selector_held, words_held}
use Rattle.cfs_mount.specs.Settled.{AreReadOff, AreSettled}
use Rattle.cfs_mount.proofs.Distinct.{distinct_front}
use Rattle.cfs_mount.proofs.Settling.{front-now, front-settled, length-at, many, slots-settled}
use Rattle.cfs_mount.proofs.Settling.{words-now}

-- one word
alone : (words : List ℕ) → length words ≡ 1 → words ≡ get_or words 0 0 ∷ []
alone [] one = absurd (omega (arith, one))
alone (word ∷ []) one = cc
alone (word ∷ next ∷ rest) one = absurd (omega (arith, one))

-- the words that devices hold are read of the single disk that a crash leaves of them
pub held-is-read : (disk : Disk) (regions : List (Seen WordStep)) (blocks : List (Seen BlockStep))
    (numbers : List ℕ) → IsStore regions blocks numbers → HaveWordsOf disk regions →
    AreReadOff disk.front (words_held regions blocks)
held-is-read disk regions blocks numbers store have = record {
  selector =
      sym (front-now disk regions have 0 (omega arith) (omega (arith, many store)))
      ∙ alone (words_of (seen_at regions 0)) (length-at store 0 (omega (arith, many store)));
  table =
      sym (front-now disk regions have (1 + selector_held regions % 2) (omega arith)
      (omega (arith, many store)));
  journal =
      ap (λ front. take 64 (drop 3 front))
      (sym (have (map words_of regions) (words-now regions)).front)
      ∙ ap (λ rows. take 64 rows) (drop-take 3 64 (map words_of regions))
      ∙ take-take 64 64 (drop 3 (map words_of regions)) (omega arith);
}

pub brought-settled : (files : List File) (start first : Disk) (old new : List (Seen WordStep))
    (blocks_old blocks_new : List (Seen BlockStep)) (numbers_old numbers_new : List ℕ) →
    IsStore old blocks_old numbers_old → Stands files start first old blocks_old →
    IsStore new blocks_new numbers_new → IsBroughtHome files start first new blocks_new →
    AreSettled (words_held old blocks_old) new
brought-settled files start first old new blocks_old blocks_new numbers_old numbers_new store
    stands kept home =
    let same : first.front ≡ home.now.front =
    stands.stay.front ∙ sym home.stands.stay.front in
    let read : AreReadOff home.now.front (words_held old blocks_old) =
    subst (λ front. AreReadOff front (words_held old blocks_old)) same
    (held-is-read first old blocks_old numbers_old store stands.words) in
    let distinct : AreDistinct (all_devices new) =
    distinct_front (all_devices new) (all_devices blocks_new) home.stands.distinct in
    record {
      front = front-settled (words_held old blocks_old) home.now new blocks_new numbers_new kept
          home.stands.words distinct read;
      slots = slots-settled (words_held old blocks_old) home.now new blocks_new numbers_new kept
          home.stands.words home.closed;
    }
