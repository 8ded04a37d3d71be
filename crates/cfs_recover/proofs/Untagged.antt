-- Blocks that are tagged for no file are untagged.
use Rattle.std.proofs.Common.{ℕ, ◌+◌, ◌<◌, ◌≡◌, ◌∙◌, Bool, Result, Ok, Err, OnOk, OnErr, ◌⊎◌, List}
use Rattle.std.proofs.Common.{[], ◌∷◌, ◌++◌, take, length, map, get_or, set, inl, inr, refl, sym}
use Rattle.std.proofs.Common.{ap, subst, arith}
use Rattle.std.proofs.lemmas.Bool.{cases_lt}
use Rattle.std.proofs.lemmas.List.{get_or-set_other, get_or-set_same, set-get_or, set-set, set_past}
use Rattle.std.proofs.lemmas.List.{take_more}
use Rattle.cfs_core.proofs.Order.{same_or_not}
use Rattle.cfs_pmem.specs.declared.trace.Asked.{Asked}
use Rattle.cfs_pmem.specs.Images.{Seen, WordStep, devices_of}
use Rattle.cfs_pmem.specs.Objects.{IsEachImage, IsImageBut, all_devices, seen_at}
use Rattle.cfs_pmem.proofs.ObjectLemmas.{each_but, map-see-set, seen_at-map}
use Rattle.cfs_block.specs.BlockImages.{BlockStep, Content, IsBlockImage, TagFails, content_of}
use Rattle.cfs_block.specs.BlockImages.{kept, retagged, unflushed, with_tag}
use Rattle.cfs_block.proofs.BlockLemmas.{all_kept, now_is_image}
use Rattle.cfs_medium.specs.Depicts.{content_at}
use Rattle.cfs_home.specs.Calls.{HaveBlocksOf, MountMoments, SetsTagAt}
use Rattle.cfs_home.specs.Disks.{AllStay, ChangesBlock, Disk, File, IsNoTag}
use Rattle.cfs_home.proofs.Calls.{but-has, but-other, but-within, tags-stop}
use Rattle.cfs_home.proofs.Disks.{goes-on, other-blocks}
use Rattle.cfs_recover.specs.Begins.{Stands, both}
use Rattle.cfs_recover.specs.Held.{AreFull}
use Rattle.cfs_recover.specs.Untagged.{all_untagged, untagged_at, with_untagged, with_untagged_at}
use Rattle.cfs_recover.proofs.Lists.{distinct-blocks}

-- ---- one block

pub untag-is : {X : Type 0} (see : X → Seen BlockStep) (xs : List X) (at : ℕ) (d y : X) →
    at < length xs → see y ≡ kept (retagged 0 (see (get_or xs at d))) →
    map see (set xs at y) ≡ with_untagged_at at (map see xs)
untag-is see xs at d y less is =
    map-see-set see xs at y
    ∙ ap (λ (seen : Seen BlockStep). set (map see xs) at seen)
    (is ∙ ap (λ (seen : Seen BlockStep). kept (retagged 0 seen))
    (sym (seen_at-map see xs at d less)))

pub tag-devices : {T E : Type 0} (keeps : Bool) (result : Result T E) (old new : Seen BlockStep) →
    OnOk result (new ≡ kept (retagged 0 old)) →
    OnErr result (TagFails keeps 0 old new ⊎ (new ≡ unflushed (retagged 0 old))) →
    devices_of new ≡ devices_of old
tag-devices keeps (Ok t) old new ok err = ap devices_of ok
tag-devices keeps (Err e) old new ok err = elim err [
  | inl fails ↦ elim fails.half [ inl is ↦ ap devices_of is | inr is ↦ ap devices_of is ]
  | inr is ↦ ap devices_of is
]

-- a crash leaves the disk with that block untagged alone
untagged-have : (at : ℕ) (disk : Disk) (olds : List (Seen BlockStep)) → AreFull olds →
    at < length olds → HaveBlocksOf disk olds →
    HaveBlocksOf (untagged_at at disk) (with_untagged_at at olds)
untagged-have at disk olds full within have contents each =
    sym (set-get_or contents at (record { tag = 0; bytes = [] }))
    ∙ (ap (λ (c : Content). set contents at c) here
    ∙ (sym (set-set contents at was (with_tag 0 was))
    ∙ (ap (λ (cs : List Content). set cs at (with_tag 0 was)) before
    ∙ ap (λ (c : Content). set disk.blocks at (with_tag 0 c)) (sym stood))))
  where
    was : Content
    was = content_of (seen_at olds at)

    but : IsImageBut IsBlockImage
        (λ (c : Content). c ≡ with_tag 0 (content_of (seen_at olds at))) at olds contents
    but = each_but IsBlockImage
        (λ (c : Content). c ≡ with_tag 0 (content_of (seen_at olds at))) at olds
        (kept (retagged 0 (seen_at olds at))) contents within
        (all_kept (λ (c : Content). c ≡ with_tag 0 (content_of (seen_at olds at)))
        (retagged 0 (seen_at olds at)) refl refl) each

    here : get_or contents at (record { tag = 0; bytes = [] })
        ≡ with_tag 0 (content_of (seen_at olds at))
    here = but-has IsBlockImage
        (λ (c : Content). c ≡ with_tag 0 (content_of (seen_at olds at))) at olds contents
        (record { tag = 0; bytes = [] }) but

    before : set contents at (content_of (seen_at olds at)) ≡ disk.blocks
    before = have (set contents at (content_of (seen_at olds at)))
        (but-other IsBlockImage
        (λ (c : Content). c ≡ with_tag 0 (content_of (seen_at olds at))) at olds contents
        (content_of (seen_at olds at)) but
        (now_is_image (seen_at olds at).history
        (let own = full at within in omega (arith, own))))

    stood : content_at disk.blocks at ≡ content_of (seen_at olds at)
    stood =
        ap (λ (cs : List Content). content_at cs at) (sym before)
        ∙ get_or-set_same contents at (content_of (seen_at olds at))
        (record { tag = 0; bytes = [] })
        (but-within IsBlockImage
        (λ (c : Content). c ≡ with_tag 0 (content_of (seen_at olds at))) at olds contents but)

no-tag : (files : List File) → IsNoTag files 0
no-tag files file among block less same = omega arith

module _ (files : List File) (start now : Disk) (regions : List (Seen WordStep))
    (blocks : List (Seen BlockStep)) (stands : Stands files start now regions blocks) where
  untag-stay : (at : ℕ) → IsNoTag files (content_at now.blocks at).tag → (third : Disk) →
      ChangesBlock at (with_tag 0 (content_at now.blocks at)) now third → AllStay files start third
  untag-stay at none third step =
      let on = goes-on files start now third stands.stay in
      on.1 (other-blocks files at (with_tag 0 (content_at now.blocks at)) now third on.0 none
      (no-tag files) step)

  pub untag-moments : (at : ℕ) (news : List (Seen BlockStep)) (asked_old asked_new : List Asked) →
      IsNoTag files (content_at now.blocks at).tag →
      SetsTagAt at 0 asked_old blocks asked_new news →
      MountMoments files start asked_old (both regions blocks) asked_new (both regions news)
  untag-moments at news _ _ none sets =
      tags-stop files at 0 start now regions blocks news _ _ (untag-stay at none) stands.stay
      stands.words stands.blocks_are stands.distinct sets

  pub untag-stands : (at : ℕ) (news : List (Seen BlockStep)) →
      IsNoTag files (content_at now.blocks at).tag → news ≡ with_untagged_at at blocks →
      AreFull blocks → at < length blocks → all_devices news ≡ all_devices blocks →
      Stands files start (untagged_at at now) regions news
  untag-stands at news none is full within same = record {
    are = stands.are;
    stay = untag-stay at none (untagged_at at now)
        (record { front = refl; sizes = λ node. refl; slots = refl; blocks = refl });
    words = λ words each. record {
      front = (stands.words words each).front;
      sizes = (stands.words words each).sizes;
      slots = (stands.words words each).slots;
    };
    blocks_are = λ contents each.
        untagged-have at now blocks full within stands.blocks_are contents
        (subst (λ (seens : List (Seen BlockStep)). IsEachImage IsBlockImage seens contents) is
        each);
    distinct = distinct-blocks regions blocks news same stands.distinct;
  }

-- ---- one after another

untag-more : (places : List ℕ) (at : ℕ) (blocks : List (Seen BlockStep)) →
    with_untagged (places ++ at ∷ []) blocks ≡ with_untagged_at at (with_untagged places blocks)
untag-more [] at blocks = refl
untag-more (first ∷ places) at blocks = untag-more places at (with_untagged_at first blocks)

all-more : (places : List ℕ) (at : ℕ) (disk : Disk) →
    all_untagged (places ++ at ∷ []) disk ≡ untagged_at at (all_untagged places disk)
all-more [] at disk = refl
all-more (first ∷ places) at disk = all-more places at (untagged_at first disk)

pub untag-one-more : (places : List ℕ) (i : ℕ) (begun_ mid now : List (Seen BlockStep)) →
    i < length places → mid ≡ with_untagged (take i places) begun_ →
    now ≡ with_untagged_at (get_or places i 0) mid →
    now ≡ with_untagged (take (i + 1) places) begun_
untag-one-more places i begun_ mid now less before is =
    is
    ∙ (ap (with_untagged_at (get_or places i 0)) before
    ∙ (sym (untag-more (take i places) (get_or places i 0) begun_)
    ∙ sym (ap (λ (ps : List ℕ). with_untagged ps begun_) (take_more places i 0 less))))

pub untagged-one-more : (places : List ℕ) (i : ℕ) (disk : Disk) → i < length places →
    untagged_at (get_or places i 0) (all_untagged (take i places) disk)
    ≡ all_untagged (take (i + 1) places) disk
untagged-one-more places i disk less =
    sym (all-more (take i places) (get_or places i 0) disk)
    ∙ sym (ap (λ (ps : List ℕ). all_untagged ps disk) (take_more places i 0 less))

none-once : (files : List File) (disk : Disk) (at k : ℕ) →
    IsNoTag files (content_at disk.blocks k).tag →
    IsNoTag files (content_at (untagged_at at disk).blocks k).tag
none-once files disk at k none = elim (same_or_not k at) [
  | inl same ↦ elim (cases_lt at (length disk.blocks)) [
    | inl less ↦ subst (IsNoTag files)
        (sym (ap (λ (j : ℕ). (content_at (untagged_at at disk).blocks j).tag) same
        ∙ ap (λ (c : Content). c.tag)
        (get_or-set_same disk.blocks at (with_tag 0 (content_at disk.blocks at))
        (record { tag = 0; bytes = [] }) less)))
        (no-tag files)
    | inr past ↦ subst (λ (cs : List Content). IsNoTag files (content_at cs k).tag)
        (sym (set_past disk.blocks at (with_tag 0 (content_at disk.blocks at)) past)) none
  ]
  | inr apart ↦ subst (λ (c : Content). IsNoTag files c.tag)
      (sym (get_or-set_other disk.blocks at k (with_tag 0 (content_at disk.blocks at))
      (record { tag = 0; bytes = [] }) apart)) none
]

pub none-still : (files : List File) (places : List ℕ) (disk : Disk) (k : ℕ) →
    IsNoTag files (content_at disk.blocks k).tag →
    IsNoTag files (content_at (all_untagged places disk).blocks k).tag
none-still files [] disk k none = none
none-still files (at ∷ places) disk k none =
    none-still files places (untagged_at at disk) k (none-once files disk at k none)
