-- Slots, size words and blocks of no file are swept.
use Rattle.std.proofs.Common.{ℕ, ◌+◌, ◌<◌, ◌≡◌, ◌∙◌, false, List, [], ◌∷◌, ◌++◌, take}
use Rattle.std.proofs.Common.{length, get_or, set, inl, inr, refl, sym, ap, subst}
use Rattle.std.proofs.lemmas.Bool.{cases_lt}
use Rattle.std.proofs.lemmas.List.{get_or-set_other, get_or-set_same, set_past}
use Rattle.std.proofs.lemmas.List.{take_more}
use Rattle.cfs_core.proofs.Order.{same_or_not}
use Rattle.cfs_pmem.specs.declared.trace.Asked.{Asked}
use Rattle.cfs_pmem.specs.Images.{Seen, WordStep, IsImage, kept, wrote}
use Rattle.cfs_pmem.specs.Objects.{IsEachImage, all_devices, seen_at}
use Rattle.cfs_pmem.proofs.AllMomentLemmas.{all_begun}
use Rattle.cfs_block.specs.BlockImages.{BlockStep}
use Rattle.cfs_block.specs.Devices.{DeviceImages}
use Rattle.cfs_slot.specs.Words.{is_live}
use Rattle.cfs_home.specs.Calls.{AreWordsOf, MountMoments, SetsFirst, disk_of, with_size}
use Rattle.cfs_home.specs.Disks.{AllStay, ClosesSlot, Disk, File, IsDead, IsNoNode, SetsSize, shut}
use Rattle.cfs_home.proofs.Behind.{gates-closed, sizes-set}
use Rattle.cfs_home.proofs.Calls.{closes-stop, sizes-stop}
use Rattle.cfs_home.proofs.Disks.{all-same, dead-closes, goes-on, other-sizes}
use Rattle.cfs_recover.specs.Begins.{Stands, both}
use Rattle.cfs_recover.specs.Swept.{all_empty, all_shut, with_no_sizes}
use Rattle.cfs_recover.specs.Swept.{with_shut}
use Rattle.cfs_recover.specs.Words.{HaveFirstWords, with_first}
use Rattle.cfs_recover.proofs.Lists.{distinct-regions}
use Rattle.cfs_recover.proofs.Settled.{with-size-sets}

-- no step yet
pub stands-moments : (files : List File) (start now : Disk) (regions : List (Seen WordStep))
    (blocks : List (Seen BlockStep)) (asked : List Asked) →
    Stands files start now regions blocks →
    MountMoments files start asked (both regions blocks) asked (both regions blocks)
stands-moments files start now regions blocks asked stands =
    all_begun asked (both regions blocks) stands.distinct
    (λ images are. there images (stands.words images.words are.words)
    (stands.blocks_are images.contents are.contents))
  where
    there : (images : DeviceImages) → AreWordsOf now images.words →
        images.contents ≡ now.blocks → AllStay files start (disk_of images)
    there images words contents =
        all-same files start now (disk_of images) stands.stay words.front words.sizes words.slots
        contents

module _ (files : List File) (start now : Disk) (regions : List (Seen WordStep))
    (blocks : List (Seen BlockStep)) (stands : Stands files start now regions blocks) where
  -- ---- a gate that is no live entry's

  dead-stay : (at : ℕ) → IsDead files (get_or now.slots at []) → (third : Disk) →
      ClosesSlot at now third → AllStay files start third
  dead-stay at dead third step =
      let on = goes-on files start now third stands.stay in
      on.1 (dead-closes files at now third on.0 dead step)

  pub dead-moments : (at : ℕ) (news : List (Seen WordStep)) (asked_old asked_new : List Asked) →
      IsDead files (get_or now.slots at []) →
      SetsFirst (323 + at) 0 asked_old regions asked_new news →
      MountMoments files start asked_old (both regions blocks) asked_new (both news blocks)
  dead-moments at news _ _ dead sets =
      closes-stop files at start now regions news blocks _ _ (dead-stay at dead) stands.stay
      stands.words stands.blocks_are stands.distinct sets

  pub dead-stands : (at : ℕ) (news : List (Seen WordStep)) →
      IsDead files (get_or now.slots at []) → news ≡ with_first (323 + at) 0 regions →
      323 + at < length regions → all_devices news ≡ all_devices regions →
      Stands files start (record now { slots = shut at now.slots }) news blocks
  dead-stands at news dead is within same = record {
    are = stands.are;
    stay = dead-stay at dead (record now { slots = shut at now.slots })
        (record { front = refl; sizes = λ node. refl; slots = refl; blocks = refl });
    words = λ words each.
        gates-closed at now regions (kept (wrote 0 0 (seen_at regions (323 + at)))) within
        stands.words refl words
        (subst (λ (seens : List (Seen WordStep)). IsEachImage IsImage seens words) is each);
    blocks_are = λ contents each. stands.blocks_are contents each;
    distinct = distinct-regions regions news blocks same stands.distinct;
  }

  -- ---- a size word that is no file's

  none-stay : (node : ℕ) → IsNoNode files node → (third : Disk) → SetsSize node 0 now third →
      AllStay files start third
  none-stay node none third step =
      let on = goes-on files start now third stands.stay in
      on.1 (other-sizes files node 0 now third on.0 none step)

  pub none-moments : (node : ℕ) (news : List (Seen WordStep)) (asked_old asked_new : List Asked) →
      IsNoNode files node → node < 256 → 67 + node < length regions → HaveFirstWords regions →
      SetsFirst (67 + node) 0 asked_old regions asked_new news →
      MountMoments files start asked_old (both regions blocks) asked_new (both news blocks)
  none-moments node news _ _ none below within some sets =
      sizes-stop files node 0 start now regions news blocks _ _ (none-stay node none) stands.stay
      below (some (67 + node) within) stands.words stands.blocks_are stands.distinct sets

  pub none-stands : (node : ℕ) (news : List (Seen WordStep)) → IsNoNode files node →
      news ≡ with_first (67 + node) 0 regions → node < 256 → 67 + node < length regions →
      HaveFirstWords regions → all_devices news ≡ all_devices regions →
      Stands files start (with_size node 0 now) news blocks
  none-stands node news none is below within some same = record {
    are = stands.are;
    stay = none-stay node none (with_size node 0 now) (with-size-sets node 0 now);
    words = λ words each.
        sizes-set node 0 now regions (kept (wrote 0 0 (seen_at regions (67 + node)))) below within
        (some (67 + node) within) stands.words refl words
        (subst (λ (seens : List (Seen WordStep)). IsEachImage IsImage seens words) is each);
    blocks_are = λ contents each. stands.blocks_are contents each;
    distinct = distinct-regions regions news blocks same stands.distinct;
  }

-- ---- one after another

shut-more : (places : List ℕ) (at : ℕ) (regions : List (Seen WordStep)) →
    with_shut (places ++ at ∷ []) regions ≡ with_first (323 + at) 0 (with_shut places regions)
shut-more [] at regions = refl
shut-more (first ∷ places) at regions =
    shut-more places at (with_first (323 + first) 0 regions)

all-more : (places : List ℕ) (at : ℕ) (disk : Disk) →
    all_shut (places ++ at ∷ []) disk
    ≡ record (all_shut places disk) { slots = shut at (all_shut places disk).slots }
all-more [] at disk = refl
all-more (first ∷ places) at disk =
    all-more places at (record disk { slots = shut first disk.slots })

pub shut-one-more : (places : List ℕ) (i : ℕ) (begun_ mid now : List (Seen WordStep)) →
    i < length places → mid ≡ with_shut (take i places) begun_ →
    now ≡ with_first (323 + get_or places i 0) 0 mid →
    now ≡ with_shut (take (i + 1) places) begun_
shut-one-more places i begun_ mid now less before is =
    is
    ∙ (ap (with_first (323 + get_or places i 0) 0) before
    ∙ (sym (shut-more (take i places) (get_or places i 0) begun_)
    ∙ sym (ap (λ (ps : List ℕ). with_shut ps begun_) (take_more places i 0 less))))

pub all-one-more : (places : List ℕ) (i : ℕ) (disk : Disk) → i < length places →
    record (all_shut (take i places) disk)
    { slots = shut (get_or places i 0) (all_shut (take i places) disk).slots }
    ≡ all_shut (take (i + 1) places) disk
all-one-more places i disk less =
    sym (all-more (take i places) (get_or places i 0) disk)
    ∙ sym (ap (λ (ps : List ℕ). all_shut ps disk) (take_more places i 0 less))

-- a slot that is no live entry is none once others are closed
closed-dead : (ino : ℕ) (words : List ℕ) → is_live ino (set words 0 0) ≡ false
closed-dead ino [] = refl
closed-dead ino (gate ∷ words) = refl

dead-once : (files : List File) (slots : List (List ℕ)) (at k : ℕ) →
    IsDead files (get_or slots k []) → IsDead files (get_or (shut at slots) k [])
dead-once files slots at k dead file among = elim (same_or_not k at) [
  | inl same ↦ elim (cases_lt at (length slots)) [
    | inl less ↦
        ap (λ (j : ℕ). is_live file.ino (get_or (shut at slots) j [])) same
        ∙ (ap (is_live file.ino)
        (get_or-set_same slots at (set (get_or slots at []) 0 0) [] less)
        ∙ closed-dead file.ino (get_or slots at []))
    | inr past ↦
        ap (λ (all : List (List ℕ)). is_live file.ino (get_or all k []))
        (set_past slots at (set (get_or slots at []) 0 0) past)
        ∙ dead file among
  ]
  | inr apart ↦
      ap (is_live file.ino) (get_or-set_other slots at k (set (get_or slots at []) 0 0) [] apart)
      ∙ dead file among
]

pub dead-still : (files : List File) (places : List ℕ) (disk : Disk) (k : ℕ) →
    IsDead files (get_or disk.slots k []) → IsDead files (get_or (all_shut places disk).slots k [])
dead-still files [] disk k dead = dead
dead-still files (at ∷ places) disk k dead =
    dead-still files places (record disk { slots = shut at disk.slots }) k
    (dead-once files disk.slots at k dead)

sizes-more : (nodes : List ℕ) (node : ℕ) (regions : List (Seen WordStep)) →
    with_no_sizes (nodes ++ node ∷ []) regions
    ≡ with_first (67 + node) 0 (with_no_sizes nodes regions)
sizes-more [] node regions = refl
sizes-more (first ∷ nodes) node regions =
    sizes-more nodes node (with_first (67 + first) 0 regions)

empty-more : (nodes : List ℕ) (node : ℕ) (disk : Disk) →
    all_empty (nodes ++ node ∷ []) disk ≡ with_size node 0 (all_empty nodes disk)
empty-more [] node disk = refl
empty-more (first ∷ nodes) node disk = empty-more nodes node (with_size first 0 disk)

pub sizes-one-more : (nodes : List ℕ) (i : ℕ) (begun_ mid now : List (Seen WordStep)) →
    i < length nodes → mid ≡ with_no_sizes (take i nodes) begun_ →
    now ≡ with_first (67 + get_or nodes i 0) 0 mid →
    now ≡ with_no_sizes (take (i + 1) nodes) begun_
sizes-one-more nodes i begun_ mid now less before is =
    is
    ∙ (ap (with_first (67 + get_or nodes i 0) 0) before
    ∙ (sym (sizes-more (take i nodes) (get_or nodes i 0) begun_)
    ∙ sym (ap (λ (ns : List ℕ). with_no_sizes ns begun_) (take_more nodes i 0 less))))

pub empty-one-more : (nodes : List ℕ) (i : ℕ) (disk : Disk) → i < length nodes →
    with_size (get_or nodes i 0) 0 (all_empty (take i nodes) disk)
    ≡ all_empty (take (i + 1) nodes) disk
empty-one-more nodes i disk less =
    sym (empty-more (take i nodes) (get_or nodes i 0) disk)
    ∙ sym (ap (λ (ns : List ℕ). all_empty ns disk) (take_more nodes i 0 less))
