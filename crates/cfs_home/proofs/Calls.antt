-- Calls of a mount on the devices: at each moment a crash leaves the files.
use Rattle.std.proofs.Common.{◌≡◌, ◌≢◌, ◌⊎◌, ◌∙◌, inl, inr, ℕ, zero, suc, ◌+◌, ◌*◌, ◌/◌, ◌%◌, ◌<◌}
use Rattle.std.proofs.Common.{◌≤◌, nat_lt, Bool, true, false, if◌then◌else◌, List, [], ◌∷◌, length}
use Rattle.std.proofs.Common.{take, drop, get_or, set, arith, refl, sym, ap, subst}
use Rattle.std.proofs.lemmas.Bool.{cases_lt}
use Rattle.std.proofs.lemmas.Bool.Decides.{nat_tests}
use Rattle.std.proofs.lemmas.List.{drop-set-add, drop-set-lt, get_or-drop, get_or-set_other}
use Rattle.std.proofs.lemmas.List.{get_or-set_same, length-set, set-get_or, set-set, set_past}
use Rattle.std.proofs.lemmas.List.{take-set-le}
use Rattle.cfs_file.specs.declared.sizes.TheConstants.{BLOCK_LEN, FILE_BLOCKS}
use Rattle.cfs_file.specs.Span.{Touches}
use Rattle.cfs_core.proofs.Order.{same_or_not}
use Rattle.cfs_pmem.specs.declared.trace.Asked.{Asked}
use Rattle.cfs_pmem.specs.AllMoments.{AreDistinct}
use Rattle.cfs_pmem.specs.Images.{Seen, WordStep, IsImage, IsSetFrom, words_of}
use Rattle.cfs_pmem.specs.Objects.{IsCallOn, IsEachImage, IsImageBut, MomentsOf, seen_at}
use Rattle.cfs_pmem.proofs.AllMomentLemmas.{Carries, all_among}
use Rattle.cfs_block.specs.BlockImages.{BlockStep, Content, IsBlockImage, IsTaggedFrom, with_tag}
use Rattle.cfs_block.specs.Devices.{AreImagesOf, DeviceImages, DeviceMoments, Devices, IsDeviceCall}
use Rattle.cfs_block.specs.Devices.{numbers_of}
use Rattle.cfs_medium.specs.Depicts.{IsFor, content_at}
use Rattle.cfs_medium.specs.Laws.{IsOfOthers}
use Rattle.cfs_medium.specs.Store.{tag_of}
use Rattle.cfs_home.specs.Calls.{AreWordsOf, disk_of, size_in}
use Rattle.cfs_home.specs.Disks.{AllStay, BlocksBeside, ClosesSlot, Disk, File, SetsSize, shut}
use Rattle.cfs_home.specs.Laws.{ClosesMayStop, PiecesAreBeside, SizesMayStop, TagsMayStop}
use Rattle.cfs_home.specs.Laws.{WritesMayStop}
use Rattle.cfs_home.proofs.Disks.{all-same}

-- ---- regions and blocks, of which one list stays

abbrev together : List (Seen WordStep) → List (Seen BlockStep) → Devices
together regions blocks = record { regions = regions; blocks = blocks }

on-blocks : {P : List Content → Type 0} (Q : DeviceImages → Type 0)
    (regions : List (Seen WordStep)) {old new : List (Seen BlockStep)}
    {asked_old asked_new : List Asked} → AreDistinct (numbers_of (together regions old)) →
    ((images : DeviceImages) → IsEachImage IsImage regions images.words → P images.contents →
    Q images) →
    MomentsOf IsBlockImage P asked_old old asked_new new →
    DeviceMoments Q asked_old (together regions old) asked_new (together regions new)
on-blocks {P} Q regions distinct gives moments =
    let carries : Carries (IsEachImage IsBlockImage) IsCallOn AreImagesOf IsDeviceCall P Q
    (λ (blocks : List (Seen BlockStep)). together regions blocks) = record {
      call = λ asked was now h. inr (h, refl);
      gives = λ world all whole h. gives whole h.words (all whole.contents h.contents);
    } in
    all_among {put = λ (blocks : List (Seen BlockStep)). together regions blocks} distinct carries
    moments

on-regions : {P : List (List ℕ) → Type 0} (Q : DeviceImages → Type 0)
    (blocks : List (Seen BlockStep)) {old new : List (Seen WordStep)}
    {asked_old asked_new : List Asked} → AreDistinct (numbers_of (together old blocks)) →
    ((images : DeviceImages) → P images.words → IsEachImage IsBlockImage blocks images.contents →
    Q images) →
    MomentsOf IsImage P asked_old old asked_new new →
    DeviceMoments Q asked_old (together old blocks) asked_new (together new blocks)
on-regions {P} Q blocks distinct gives moments =
    let carries : Carries (IsEachImage IsImage) IsCallOn AreImagesOf IsDeviceCall P Q
    (λ (regions : List (Seen WordStep)). together regions blocks) = record {
      call = λ asked was now h. inl (h, refl);
      gives = λ world all whole h. gives whole (all whole.words h.words) h.contents;
    } in
    all_among {put = λ (regions : List (Seen WordStep)). together regions blocks} distinct carries
    moments

-- ---- an image that is not one of its device

module _ {Form Image : Type 0} (IsImage_ : List Form → Image → Type 0) (P : Image → Type 0) where
  pub but-within : (place : ℕ) (olds : List (Seen Form)) (images : List Image) →
      IsImageBut IsImage_ P place olds images → place < length images
  but-within place [] images h = absurd h
  but-within zero (seen ∷ rest) [] h = absurd h
  but-within (suc place) (seen ∷ rest) [] h = absurd h
  but-within zero (seen ∷ rest) (image ∷ images) h = omega arith
  but-within (suc place) (seen ∷ rest) (image ∷ images) h =
      let below = but-within place rest images h.1 in omega arith

  pub but-has : (place : ℕ) (olds : List (Seen Form)) (images : List Image) (d : Image) →
      IsImageBut IsImage_ P place olds images → P (get_or images place d)
  but-has place [] images d h = absurd h
  but-has zero (seen ∷ rest) [] d h = absurd h
  but-has (suc place) (seen ∷ rest) [] d h = absurd h
  but-has zero (seen ∷ rest) (image ∷ images) d h = h.0
  but-has (suc place) (seen ∷ rest) (image ∷ images) d h = but-has place rest images d h.1

  -- with one of the device in its place, all are images
  pub but-other : (place : ℕ) (olds : List (Seen Form)) (images : List Image) (other : Image) →
      IsImageBut IsImage_ P place olds images → IsImage_ (seen_at olds place).history other →
      IsEachImage IsImage_ olds (set images place other)
  but-other place [] images other h is = absurd h
  but-other zero (seen ∷ rest) [] other h is = absurd h
  but-other (suc place) (seen ∷ rest) [] other h is = absurd h
  but-other zero (seen ∷ rest) (image ∷ images) other h is = (is, h.1)
  but-other (suc place) (seen ∷ rest) (image ∷ images) other h is =
      (h.0, but-other place rest images other h.1 is)

-- ---- a word is set

-- what a crash leaves while the first word of a region is set: what it left before, or that with
-- the word set
pub record IsSetOf (place word : ℕ) (olds : List (Seen WordStep)) (images : List (List ℕ)) :
    Type 0 where
  firsts : List (List ℕ)
  each : IsEachImage IsImage olds firsts
  within : place < length firsts
  long : length (get_or firsts place []) ≡ length (words_of (seen_at olds place))
  same : (images ≡ firsts) ⊎ (images ≡ set firsts place (set (get_or firsts place []) 0 word))

set-of : (place word : ℕ) (olds : List (Seen WordStep)) (images : List (List ℕ)) →
    IsImageBut IsImage (IsSetFrom (seen_at olds place) 0 word) place olds images →
    IsSetOf place word olds images
set-of place word olds images h =
    record { firsts = firsts; each = each; within = within; long = long; same = same }
  where
    has : IsSetFrom (seen_at olds place) 0 word (get_or images place [])
    has = but-has IsImage (IsSetFrom (seen_at olds place) 0 word) place olds images [] h

    firsts : List (List ℕ)
    firsts = set images place has.first

    each : IsEachImage IsImage olds (set images place has.first)
    each = but-other IsImage (IsSetFrom (seen_at olds place) 0 word) place olds images has.first h
        has.possible

    below : place < length images
    below = but-within IsImage (IsSetFrom (seen_at olds place) 0 word) place olds images h

    within : place < length (set images place has.first)
    within = omega (arith, below, length-set images place has.first)

    here : get_or (set images place has.first) place [] ≡ has.first
    here = get_or-set_same images place has.first [] below

    long : length (get_or (set images place has.first) place [])
        ≡ length (words_of (seen_at olds place))
    long = ap (λ (words : List ℕ). length words) here ∙ has.possible.size

    back : (image : List ℕ) → get_or images place [] ≡ image →
        images ≡ set (set images place has.first) place image
    back image is =
        sym (set-get_or images place [])
        ∙ (ap (λ (words : List ℕ). set images place words) is
        ∙ sym (set-set images place has.first image))

    same : (images ≡ set images place has.first)
        ⊎ (images ≡ set (set images place has.first) place
        (set (get_or (set images place has.first) place []) 0 word))
    same = elim has.same [
      | inl is ↦ inl (back has.first is ∙ set-set images place has.first has.first)
      | inr is ↦ inr (back (set (get_or (set images place has.first) place []) 0 word)
          (is ∙ ap (λ (words : List ℕ). set words 0 word) (sym here)))
    ]

-- ---- the disk behind it

pub size-other : (words : List (List ℕ)) (place : ℕ) (image : List ℕ) (node : ℕ) →
    (node < 256 → 67 + node ≢ place) → size_in (set words place image) node ≡ size_in words node
size-other words place image node differs = elim (cases_lt node 256) [
  | inl below ↦
      let test : nat_lt node 256 ≡ true = grind (arith, nat_tests) in
      chosen true test (set words place image)
      ∙ (ap (λ (ws : List ℕ). get_or ws 0 0)
      (get_or-set_other words place (67 + node) image [] (differs below))
      ∙ sym (chosen true test words))
  | inr past ↦
      let test : nat_lt node 256 ≡ false = grind (arith, nat_tests) in
      chosen false test (set words place image) ∙ sym (chosen false test words)
]
  where
    chosen : (b : Bool) → nat_lt node 256 ≡ b → (list : List (List ℕ)) →
        size_in list node ≡ (if b then get_or (get_or list (67 + node) []) 0 0 else 0)
    chosen b test list =
        ap (λ (c : Bool). if c then get_or (get_or list (67 + node) []) 0 0 else 0) test

-- a word that is set is read
pub first-set : (words : List ℕ) (word : ℕ) → 0 < length words →
    get_or (set words 0 word) 0 0 ≡ word
first-set words word some = get_or-set_same words 0 word 0 some

size-own : (words : List (List ℕ)) (node : ℕ) (image : List ℕ) → node < 256 →
    67 + node < length words → size_in (set words (67 + node) image) node ≡ get_or image 0 0
size-own words node image below within =
    let test : nat_lt node 256 ≡ true = grind (arith, nat_tests) in
    ap (λ (c : Bool).
    if c then get_or (get_or (set words (67 + node) image) (67 + node) []) 0 0 else 0) test
    ∙ ap (λ (ws : List ℕ). get_or ws 0 0) (get_or-set_same words (67 + node) image [] within)

-- the same disk
unchanged : (files : List File) (start first : Disk) (images : DeviceImages) →
    AllStay files start first → AreWordsOf first images.words → images.contents ≡ first.blocks →
    AllStay files start (disk_of images)
unchanged files start first images stay words contents =
    all-same files start first (disk_of images) stay words.front words.sizes words.slots contents

-- the size word is set
size-set : (node size : ℕ) (first : Disk) (firsts : List (List ℕ)) (images : DeviceImages) →
    node < 256 → 67 + node < length firsts → 0 < length (get_or firsts (67 + node) []) →
    AreWordsOf first firsts → images.contents ≡ first.blocks →
    images.words ≡ set firsts (67 + node) (set (get_or firsts (67 + node) []) 0 size) →
    SetsSize node size first (disk_of images)
size-set node size first firsts images below within some are contents is = record {
  front =
      ap (λ (words : List (List ℕ)). take 67 words) is
      ∙ (take-set-le 67 firsts (67 + node) image (omega arith) ∙ are.front);
  own =
      ap (λ (words : List (List ℕ)). size_in words node) is
      ∙ (size-own firsts node image below within
      ∙ first-set (get_or firsts (67 + node) []) size some);
  others = λ other differs.
      ap (λ (words : List (List ℕ)). size_in words other) is
      ∙ (size-other firsts (67 + node) image other (λ less same. differs (omega arith))
      ∙ are.sizes other);
  slots =
      ap (λ (words : List (List ℕ)). drop 323 words) is
      ∙ (drop-set-lt 323 firsts (67 + node) image (omega arith) ∙ are.slots);
  blocks = contents;
}
  where
    image : List ℕ
    image = set (get_or firsts (67 + node) []) 0 size

-- a gate is closed
gate-set : (at : ℕ) (first : Disk) (firsts : List (List ℕ)) (images : DeviceImages) →
    AreWordsOf first firsts → images.contents ≡ first.blocks →
    images.words ≡ set firsts (323 + at) (set (get_or firsts (323 + at) []) 0 0) →
    ClosesSlot at first (disk_of images)
gate-set at first firsts images are contents is = record {
  front =
      ap (λ (words : List (List ℕ)). take 67 words) is
      ∙ (take-set-le 67 firsts (323 + at) image (omega arith) ∙ are.front);
  sizes = λ node.
      ap (λ (words : List (List ℕ)). size_in words node) is
      ∙ (size-other firsts (323 + at) image node (λ less same. omega arith) ∙ are.sizes node);
  slots =
      ap (λ (words : List (List ℕ)). drop 323 words) is
      ∙ (drop-set-add 323 firsts at image
      ∙ (ap (λ (words : List ℕ). set (drop 323 firsts) at (set words 0 0))
      (sym (get_or-drop 323 firsts at []))
      ∙ ap (λ (slots : List (List ℕ)). shut at slots) are.slots));
  blocks = contents;
}
  where
    image : List ℕ
    image = set (get_or firsts (323 + at) []) 0 0

-- ---- the calls

pub writes-stop : WritesMayStop
writes-stop files file request start first regions old new _ _ keeps words distinct moments =
    on-blocks (λ (images : DeviceImages). AllStay files start (disk_of images)) regions distinct
    (λ images regions_are beside. let are = words images.words regions_are in
    keeps (disk_of images)
    (record { front = are.front; sizes = are.sizes; slots = are.slots; blocks = beside }))
    moments

pub sizes-stop : SizesMayStop
sizes-stop files node size start first old new blocks _ _ keeps stay below some words contents
    distinct moments =
    on-regions (λ (images : DeviceImages). AllStay files start (disk_of images)) blocks distinct
    (λ images but blocks_are. each images
    (set-of (67 + node) size old images.words but) (contents images.contents blocks_are))
    moments
  where
    each : (images : DeviceImages) → IsSetOf (67 + node) size old images.words →
        images.contents ≡ first.blocks → AllStay files start (disk_of images)
    each images from blocks_are = elim from.same [
      | inl is ↦ unchanged files start first images stay
          (subst (AreWordsOf first) (sym is) (words from.firsts from.each)) blocks_are
      | inr is ↦ keeps (disk_of images)
          (size-set node size first from.firsts images below from.within
          (omega (arith, from.long, some)) (words from.firsts from.each) blocks_are is)
    ]

pub closes-stop : ClosesMayStop
closes-stop files at start first old new blocks _ _ keeps stay words contents distinct moments =
    on-regions (λ (images : DeviceImages). AllStay files start (disk_of images)) blocks distinct
    (λ images but blocks_are. each images
    (set-of (323 + at) 0 old images.words but) (contents images.contents blocks_are))
    moments
  where
    each : (images : DeviceImages) → IsSetOf (323 + at) 0 old images.words →
        images.contents ≡ first.blocks → AllStay files start (disk_of images)
    each images from blocks_are = elim from.same [
      | inl is ↦ unchanged files start first images stay
          (subst (AreWordsOf first) (sym is) (words from.firsts from.each)) blocks_are
      | inr is ↦ keeps (disk_of images)
          (gate-set at first from.firsts images (words from.firsts from.each) blocks_are is)
    ]

pub tags-stop : TagsMayStop
tags-stop files at tag start first regions old new _ _ keeps stay words contents distinct moments =
    on-blocks (λ (images : DeviceImages). AllStay files start (disk_of images)) regions distinct
    (λ images regions_are but. each images (words images.words regions_are) but)
    moments
  where
    back : (list : List Content) (was now : Content) → set list at was ≡ first.blocks →
        content_at list at ≡ now → list ≡ set first.blocks at now
    back list was now before is =
        sym (set-get_or list at (record { tag = 0; bytes = [] }))
        ∙ (ap (λ (c : Content). set list at c) is
        ∙ (sym (set-set list at was now) ∙ ap (λ (bs : List Content). set bs at now) before))

    each : (images : DeviceImages) → AreWordsOf first images.words →
        IsImageBut IsBlockImage (IsTaggedFrom (seen_at old at) tag) at old images.contents →
        AllStay files start (disk_of images)
    each images are but =
        let has = but-has IsBlockImage (IsTaggedFrom (seen_at old at) tag) at old images.contents
        (record { tag = 0; bytes = [] }) but in
        let below = but-within IsBlockImage (IsTaggedFrom (seen_at old at) tag) at old
        images.contents but in
        let before = contents (set images.contents at has.first)
        (but-other IsBlockImage (IsTaggedFrom (seen_at old at) tag) at old images.contents has.first
        but has.possible) in
        let here : content_at first.blocks at ≡ has.first =
        ap (λ (bs : List Content). content_at bs at) (sym before)
        ∙ get_or-set_same images.contents at has.first (record { tag = 0; bytes = [] }) below in
        elim has.same [
          | inl is ↦ unchanged files start first images stay are
              (back images.contents has.first has.first before is
              ∙ (ap (λ (c : Content). set first.blocks at c) (sym here)
              ∙ set-get_or first.blocks at (record { tag = 0; bytes = [] })))
          | inr is ↦ keeps (disk_of images) (record {
            front = are.front;
            sizes = are.sizes;
            slots = are.slots;
            blocks = back images.contents has.first (with_tag tag has.first) before is
                ∙ ap (λ (c : Content). set first.blocks at (with_tag tag c)) (sym here);
          })
        ]

-- ---- a piece of a block

pub pieces-beside : PiecesAreBeside
pieces-beside ino request first contents at from len content piece beside differs =
    elim (cases_lt at (length contents)) [
      | inl within ↦ record {
        tags = λ k. tags within k;
        others = λ k of_others. others within k of_others;
        beside = λ k p less here out. bytes within k p less here out;
      }
      | inr past ↦ subst (BlocksBeside ino request first)
          (sym (set_past contents at content past)) beside
    ]
  where
    there : at < length contents → content_at (set contents at content) at ≡ content
    there within = get_or-set_same contents at content (record { tag = 0; bytes = [] }) within

    elsewhere : (k : ℕ) → k ≢ at →
        content_at (set contents at content) k ≡ content_at contents k
    elsewhere k apart =
        get_or-set_other contents at k content (record { tag = 0; bytes = [] }) apart

    tags : at < length contents → (k : ℕ) →
        (content_at (set contents at content) k).tag ≡ (content_at first k).tag
    tags within k = elim (same_or_not k at) [
      | inl same ↦
          ap (λ (j : ℕ). (content_at (set contents at content) j).tag) same
          ∙ (ap (λ (c : Content). c.tag) (there within)
          ∙ (differs.tag ∙ (beside.tags at
          ∙ ap (λ (j : ℕ). (content_at first j).tag) (sym same))))
      | inr apart ↦ ap (λ (c : Content). c.tag) (elsewhere k apart) ∙ beside.tags k
    ]

    others : at < length contents → (k : ℕ) → IsOfOthers ino (content_at first k).tag →
        content_at (set contents at content) k ≡ content_at first k
    others within k of_others = elim (same_or_not k at) [
      | inl same ↦ absurd (of_others piece.block piece.within
          (ap (λ (j : ℕ). (content_at first j).tag) same ∙ piece.tag))
      | inr apart ↦ elsewhere k apart ∙ beside.others k of_others
    ]

    -- in the block of the piece a position that is not touched is not in the range
    outside : (p : ℕ) → IsFor ino (p / BLOCK_LEN) first at → (Touches request 0 p → ⊥) →
        (p % BLOCK_LEN < from) ⊎ (from + len ≤ p % BLOCK_LEN)
    outside p here out = elim (cases_lt (p % BLOCK_LEN) from) [
      | inl below ↦ inl below
      | inr up ↦ elim (cases_lt (p % BLOCK_LEN) (from + len)) [
        | inl inside ↦
            let one : tag_of ino (p / BLOCK_LEN) ≡ tag_of ino piece.block =
            sym here ∙ piece.tag in
            let place : BLOCK_LEN * piece.block + p % BLOCK_LEN ≡ p = omega (arith, one) in
            absurd (out (subst (λ (q : ℕ). Touches request 0 q) place
            (piece.touched (p % BLOCK_LEN) up inside)))
        | inr behind ↦ inr behind
      ]
    ]

    bytes : at < length contents → (k p : ℕ) → p / BLOCK_LEN < FILE_BLOCKS →
        IsFor ino (p / BLOCK_LEN) first k → (Touches request 0 p → ⊥) →
        get_or (content_at (set contents at content) k).bytes (p % BLOCK_LEN) 0
        ≡ get_or (content_at first k).bytes (p % BLOCK_LEN) 0
    bytes within k p less here out = elim (same_or_not k at) [
      | inl same ↦
          let own : IsFor ino (p / BLOCK_LEN) first at =
          subst (λ (j : ℕ). IsFor ino (p / BLOCK_LEN) first j) same here in
          ap (λ (j : ℕ). get_or (content_at (set contents at content) j).bytes (p % BLOCK_LEN) 0)
          same
          ∙ (ap (λ (c : Content). get_or c.bytes (p % BLOCK_LEN) 0) (there within)
          ∙ (differs.outside (p % BLOCK_LEN) (outside p own out)
          ∙ (beside.beside at p less own out
          ∙ ap (λ (j : ℕ). get_or (content_at first j).bytes (p % BLOCK_LEN) 0) (sym same))))
      | inr apart ↦
          ap (λ (c : Content). get_or c.bytes (p % BLOCK_LEN) 0) (elsewhere k apart)
          ∙ beside.beside k p less here out
    ]
