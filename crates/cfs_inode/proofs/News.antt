-- A state of a file of which nothing is pending stands for the cores of that file.
use Rattle.std.proofs.Common.{◌≡◌, ◌∙◌, ◌+◌, ◌-◌, ◌*◌, ◌<◌, ◌==◌, ◌++◌, ap, arith, inl, inr, List}
use Rattle.std.proofs.Common.{[], ◌∷◌, map, length, get_or, set, replicate, Option, None, Some}
use Rattle.std.proofs.Common.{refl, subst, sym, true, false, ℕ, zero, suc}
use Rattle.std.specs.Prelude.{is_some}
use Rattle.std.proofs.lemmas.Bool.{cases_Bool}
use Rattle.std.proofs.lemmas.Bool.Decides.{nat_tests}
use Rattle.std.specs.List.{list_all}
use Rattle.std.proofs.lemmas.Grind.{get_or-set_at}
use Rattle.std.proofs.lemmas.List.{get_or-set_other, length-replicate, length-set, map-set}
use Rattle.cfs_file.specs.declared.sizes.TheConstants.{BLOCK_LEN, FILE_BLOCKS}
use Rattle.cfs_pmem.specs.Images.{AllImages, IsImage, IsSure, Seen, WordStep, words_of}
use Rattle.cfs_pmem.specs.Objects.{IsEachImage}
use Rattle.cfs_block.specs.BlockImages.{BlockStep, Content, IsSureBlock, content_of}
use Rattle.cfs_core.specs.declared.flag.Flag.{Flag}
use Rattle.cfs_core.specs.declared.flag.Flag.TheVariants.{Off, On, Unsure}
use Rattle.cfs_core.specs.declared.inode_core.Core.{Core}
use Rattle.cfs_core.specs.declared.stretch.Stretch.{Stretch}
use Rattle.cfs_core.specs.declared.track.Track.{Track}
use Rattle.cfs_core.specs.Fresh.{IsEmpty}
use Rattle.cfs_core.specs.Medium.{is_loose, is_size}
use Rattle.cfs_core.specs.Words.{blank, flag_of, is_off, track}
use Rattle.cfs_core.proofs.Freshly.{fresh-empty}
use Rattle.cfs_core.proofs.Order.{same_or_not, track_is}
use Rattle.cfs_medium.specs.Shows.{BlockShown, Holding, Shows, SlotFits, SlotsShown, holding}
use Rattle.cfs_medium.specs.Shows.{is_for}
use Rattle.cfs_medium.specs.Store.{tag_of}
use Rattle.cfs_tracker.specs.declared.cell.Cell.{Cell}
use Rattle.cfs_slot.specs.declared.doubt.Doubt.{Doubt}
use Rattle.cfs_slot.specs.declared.live.Live.{Live}
use Rattle.cfs_tracker.specs.declared.cell.Cell.TheVariants as kinds
use Rattle.cfs_tracker.specs.declared.tracker.Tracker.{Tracker}
use Rattle.cfs_tracker.specs.Cells.{cell_at, held_in}
use Rattle.cfs_tracker.specs.Follows.{CellStands}
use Rattle.cfs_tracker.specs.New.{stored_view}
use Rattle.cfs_tracker.specs.View.{TrackerView, view_of}
use Rattle.cfs_tracker.proofs.Loading.{follows-fresh}
use Rattle.cfs_inode.specs.declared.mapped.Mapped.{Mapped}
use Rattle.cfs_inode.specs.New.{AreMapped, HasFile, IsStored, MappedSeen, StandsFor, brought}
use Rattle.cfs_inode.specs.New.{seen_for, stored_state, stored_world, told_mapped, with_homes}
use Rattle.cfs_inode.specs.Stands.{IsAtRest}
use Rattle.cfs_inode.specs.View.{Held, Seens, held_of, seens_of, state_view, told, told_cell}

-- ---- blocks that are brought in

map-replicate : {B C : Type 0} (tell : B → C) (n : ℕ) (cell : B) →
    map tell (replicate n cell) ≡ replicate n (tell cell)
map-replicate tell zero cell = refl
map-replicate {B} {C} tell (suc n) cell =
    ap (λ (cells : List C). tell cell ∷ cells) (map-replicate tell n cell)

pub homes-more : {B : Type 0} (ys : List (Mapped B)) (mapped : Mapped B) (cells : List (Cell B)) →
    with_homes (ys ++ mapped ∷ []) cells
    ≡ set (with_homes ys cells) mapped.at (kinds.Home mapped.block)
homes-more [] mapped cells = refl
homes-more (y ∷ ys) mapped cells = homes-more ys mapped (set cells y.at (kinds.Home y.block))

pub homes-told : {B C : Type 0} (tell : B → C) (blocks : List (Mapped B)) (cells : List (Cell B)) →
    map (told_cell tell) (with_homes blocks cells)
    ≡ with_homes (map (told_mapped tell) blocks) (map (told_cell tell) cells)
homes-told tell [] cells = refl
homes-told {B} {C} tell (mapped ∷ rest) cells =
    homes-told tell rest (set cells mapped.at (kinds.Home mapped.block))
    ∙ ap (λ cs. with_homes (map (told_mapped tell) rest) cs)
    (map-set (told_cell tell) cells mapped.at (kinds.Home mapped.block))

homes-long : {B : Type 0} (blocks : List (Mapped B)) (cells : List (Cell B)) →
    length (with_homes blocks cells) ≡ length cells
homes-long [] cells = refl
homes-long {B} (mapped ∷ rest) cells =
    homes-long rest (set cells mapped.at (kinds.Home mapped.block))
    ∙ length-set {A = Cell B} cells mapped.at (kinds.Home mapped.block)

pub told-homes : {S D B T E C : Type 0} (live : S → T) (doubt : D → E) (tell : B → C) (stored : ℕ)
    (blocks : List (Mapped B)) →
    told live doubt tell (brought blocks (stored_view stored))
    ≡ brought (map (told_mapped tell) blocks) (stored_view stored)
told-homes {S} {D} {B} {T} {E} {C} live doubt tell stored blocks =
    ap (λ cs. record (stored_view {S = T} {D = E} {B = C} stored) { cells = cs })
    (homes-told tell blocks (stored_view {S = S} {D = D} {B = B} stored).cells
    ∙ ap (λ cs. with_homes (map (told_mapped tell) blocks) cs)
    (map-replicate (told_cell tell) FILE_BLOCKS kinds.Hole))

-- ---- which block is at home where

none-below : (ino low : ℕ) (blocks : List MappedSeen) (k : ℕ) → AreMapped ino low blocks →
    k < low → seen_for blocks k ≡ None
none-below ino low [] k are less = refl
none-below ino low (mapped ∷ rest) k are less =
    let other : (mapped.at == k) ≡ false =
    (let above = are.0.above in grind (arith, nat_tests)) in
    rw other (none-below ino (mapped.at + 1) rest k are.1 (let above = are.0.above in omega arith))

-- the block that is at home, or what stood there
abbrev home_or : Option (Seen BlockStep) → Cell (Seen BlockStep) → Cell (Seen BlockStep)
home_or None cell = cell
home_or (Some seen) cell = kinds.Home seen

homes-at : (ino low : ℕ) (blocks : List MappedSeen) (cells : List (Cell (Seen BlockStep)))
    (k : ℕ) → AreMapped ino low blocks → k < length cells →
    cell_at (with_homes blocks cells) k ≡ home_or (seen_for blocks k) (cell_at cells k)
homes-at ino low [] cells k are less = refl
homes-at ino low (mapped ∷ rest) cells k are less =
    let set_ = set cells mapped.at (kinds.Home mapped.block) in
    let long : length set_ ≡ length cells = length-set cells mapped.at (kinds.Home mapped.block) in
    let later = homes-at ino (mapped.at + 1) rest set_ k are.1 (omega (arith, long)) in
    elim (cases_Bool (mapped.at == k)) [
      | inl own ↦
          let same : mapped.at ≡ k = grind (arith, nat_tests) in
          let none = none-below ino (mapped.at + 1) rest k are.1 (omega arith) in
          let here : cell_at set_ k ≡ home_or (seen_for (mapped ∷ rest) k) (cell_at cells k) =
          rw own (get_or-set_at cells mapped.at k (kinds.Home mapped.block) kinds.Hole (sym same)
          (omega (arith, same))) in
          later ∙ ap (λ o. home_or o (cell_at set_ k)) none ∙ here
      | inr beside ↦
          let apart : k ≡ mapped.at → ⊥ = λ same. grind (arith, nat_tests) in
          later ∙ rw beside (ap (home_or (seen_for rest k))
          (get_or-set_other cells mapped.at k (kinds.Home mapped.block) kinds.Hole apart))
    ]

pub record IsKept (ino k : ℕ) (seen : Seen BlockStep) : Type 0 where
  pub sure : IsSureBlock seen
  pub tag : (content_of seen).tag ≡ tag_of ino k

seen-kept : (ino low : ℕ) (blocks : List MappedSeen) (k : ℕ) (seen : Seen BlockStep) →
    AreMapped ino low blocks → seen_for blocks k ≡ Some seen → IsKept ino k seen
seen-kept ino low [] k seen are is = cc
seen-kept ino low (mapped ∷ rest) k seen are is = elim (cases_Bool (mapped.at == k)) [
  | inl own ↦
      let same : mapped.at ≡ k = grind (arith, nat_tests) in
      let it : Some mapped.block ≡ Some seen =
      (let first : seen_for (mapped ∷ rest) k ≡ Some mapped.block = rw own refl in
      sym first ∙ is) in
      let block : mapped.block ≡ seen = cc in
      subst (λ s. IsKept ino k s) block
      (record { sure = are.0.sure; tag = are.0.tag ∙ ap (tag_of ino) same })
  | inr beside ↦
      let rest_is : seen_for rest k ≡ Some seen =
      (let later : seen_for (mapped ∷ rest) k ≡ seen_for rest k = rw beside refl in
      sym later ∙ is) in
      seen-kept ino (mapped.at + 1) rest k seen are.1 rest_is
]

-- ---- the devices show the core

blank-track : (q : ℕ) → track [] q ≡ blank
blank-track q = elim (same_or_not q 0) [
  | inl none ↦ rw none refl
  | inr some ↦ track_is [] q (q - 1) some refl
]

no-slots : (ino place : ℕ) (held : Holding) → held.gate ≡ Off → SlotsShown ino place held []
no-slots ino place held shut = λ slots images. shown slots images
  where
    shown : (slots : List (List ℕ)) → IsEachImage IsImage [] slots → SlotFits ino place held slots
    shown [] images = record {
      gate = rw shut refl;
      number = λ gated. cc;
      mark = λ gated. cc;
      file = λ gated. cc;
      request = λ gated. cc;
    }
    shown (words ∷ rest) images = absurd images

bare : (ino block : ℕ) → (0 == tag_of ino block) ≡ false
bare ino block = grind (arith, nat_tests)

block-shown : (ino block : ℕ) (here : Option (Seen BlockStep)) (tag : Flag) (loose : List Stretch)
    (bytes : List ℕ) → tag ≡ flag_of (is_some here) →
    ((seen : Seen BlockStep) → here ≡ Some seen → IsKept ino block seen) →
    ((seen : Seen BlockStep) → here ≡ Some seen → (k : ℕ) → k < BLOCK_LEN →
    get_or (content_of seen).bytes k 0 ≡ get_or bytes (BLOCK_LEN * block + k) 0) →
    BlockShown ino block tag loose bytes here
block-shown ino block None tag loose bytes is kept alike = record {
  images = λ content nothing_is.
      let none : is_for ino block content ≡ false = rw nothing_is (bare ino block) in
      record {
        tag_is = rw (is, none) refl;
        free = λ h. ap (λ (c : Content). c.tag) nothing_is;
        bytes_are = λ h. cc;
      };
  reads = tt;
}
block-shown ino block (Some seen) tag loose bytes is kept alike =
    let it = kept seen refl in
    let own : is_for ino block (content_of seen) ≡ true =
    (let tagged = it.tag in grind (arith, nat_tests)) in
    record {
      images = λ content image.
          let same : content ≡ content_of seen = it.sure content image in
          let mine : is_for ino block content ≡ true = rw same own in
          record {
            tag_is = rw (is, mine) refl;
            free = λ h. cc;
            bytes_are = λ h k less sure.
                ap (λ (c : Content). get_or c.bytes k 0) same ∙ alike seen refl k less;
          };
      reads = λ h. alike seen refl;
    }

-- the size word is this in every image
pub record HasSize (size : Seen WordStep) (stored : ℕ) : Type 0 where
  pub images : AllImages size (λ image. get_or image 0 0 ≡ stored)
  pub now : get_or (words_of size) 0 0 ≡ stored

shown : (ino : ℕ) (size : Seen WordStep) (stored : ℕ) (blocks : List MappedSeen) (core : Core) →
    HasSize size stored → AreMapped ino 0 blocks → HasFile core stored blocks →
    Shows ino core (stored_world size blocks)
shown ino size stored blocks core sized mapped file =
    let fresh = file.fresh in
    let own : stored ≡ core.size = sym file.long ∙ sym fresh.size in
    record {
      shape = record {
        tags = fresh.blocks;
        tracks = rw (fresh.tracks, fresh.log) refl;
        doubt = λ doubt is. (let none = fresh.doubt in cc);
        loose = λ position loose.
            (let none : is_loose core.loose position ≡ false = rw fresh.loose refl in cc);
      };
      sizes = λ words image.
          let same : get_or words 0 0 ≡ core.size = sized.images words image ∙ own in
          rw same (size-is core);
      size_now = sized.now ∙ own;
      slots = λ place. rw fresh.doubt (no-slots ino place (holding core None place)
          (ap (λ ts. (track ts place).gate) fresh.tracks ∙ ap (λ (t : Track). t.gate)
          (blank-track place)));
      blocks = λ block less.
          block-shown ino block (seen_for blocks block) (get_or core.tags block Off) core.loose
          core.bytes (file.tags block less)
          (λ seen is. seen-kept ino 0 blocks block seen mapped is)
          (λ seen is. file.bytes block seen is);
    }
  where
    size-is : (core : Core) → is_size core core.size ≡ true
    size-is core =
        let own : (core.size == core.size) ≡ true = grind (arith, nat_tests) in
        rw own refl

-- ---- the state follows the core

cell-stands : (cell : Cell (Seen BlockStep)) (here : Option (Seen BlockStep)) (tag : Flag) →
    cell ≡ home_or here kinds.Hole → tag ≡ flag_of (is_some here) → CellStands cell tag
cell-stands cell None tag is flag = rw is flag
cell-stands cell (Some seen) tag is flag = rw is flag

held-is : (cell : Cell (Seen BlockStep)) (here : Option (Seen BlockStep)) (seen : Seen BlockStep) →
    cell ≡ home_or here kinds.Hole → held_in cell ≡ Some seen → here ≡ Some seen
held-is cell None seen is held =
    (let none : held_in cell ≡ None = rw is refl in cc)
held-is cell (Some one) seen is held =
    (let some : held_in cell ≡ Some one = rw is refl in sym some ∙ held)

at-rest : (ino k : ℕ) (cell : Cell (Seen BlockStep)) (here : Option (Seen BlockStep)) →
    cell ≡ home_or here kinds.Hole → IsAtRest ino k cell
at-rest ino k cell None is = rw is tt
at-rest ino k cell (Some seen) is = rw is tt

hole-at : (n k : ℕ) → cell_at {B = Seen BlockStep} (replicate n kinds.Hole) k ≡ kinds.Hole
hole-at zero k = refl
hole-at (suc n) zero = refl
hole-at (suc n) (suc k) = hole-at n k

stored-cell : (ino stored : ℕ) (blocks : List MappedSeen) (k : ℕ) → AreMapped ino 0 blocks →
    k < FILE_BLOCKS →
    cell_at (with_homes blocks (replicate FILE_BLOCKS kinds.Hole)) k
    ≡ home_or (seen_for blocks k) kinds.Hole
stored-cell ino stored blocks k are less =
    let long : length (replicate {A = Cell (Seen BlockStep)} FILE_BLOCKS kinds.Hole) ≡ FILE_BLOCKS =
    length-replicate {A = Cell (Seen BlockStep)} FILE_BLOCKS kinds.Hole in
    homes-at ino 0 blocks (replicate FILE_BLOCKS kinds.Hole) k are
    (subst (λ n. k < n) (sym long) less)
    ∙ ap (home_or (seen_for blocks k)) (hole-at FILE_BLOCKS k)

pub sized-stands : (ino : ℕ) (size : Seen WordStep) (stored : ℕ) (blocks : List MappedSeen) →
    HasSize size stored → AreMapped ino 0 blocks →
    StandsFor size stored blocks (stored_state ino size stored blocks)
sized-stands ino size stored blocks sized mapped = λ core file. record {
  stands = record {
    follows = follows-fresh (stored_state ino size stored blocks).tracker core file.fresh
        (record {
          count = refl;
          long = sym file.long;
          stored = sym file.long;
          entries = refl;
          reads = refl;
          many = homes-long blocks (replicate FILE_BLOCKS kinds.Hole)
              ∙ length-replicate {A = Cell (Seen BlockStep)} FILE_BLOCKS kinds.Hole;
          cells = λ k less.
              cell-stands (cell_at (stored_state ino size stored blocks).tracker.cells k)
              (seen_for blocks k) (get_or core.tags k Off)
              (stored-cell ino stored blocks k mapped less) (file.tags k less);
          doubt = refl;
        });
    shows = shown ino size stored blocks core sized mapped file;
    size = refl;
    slots = λ place entry held there has. cc;
    doubt = λ doubt slots is has. cc;
    blocks = λ k seen less has.
        held-is (cell_at (stored_state ino size stored blocks).tracker.cells k) (seen_for blocks k)
        seen (stored-cell ino stored blocks k mapped less) has;
    rest = λ k less.
        at-rest ino k (cell_at (stored_state ino size stored blocks).tracker.cells k)
        (seen_for blocks k) (stored-cell ino stored blocks k mapped less);
  };
  out = tt;
  once = tt;
}

pub stored-stands : (ino : ℕ) (size : Seen WordStep) (stored : ℕ) (blocks : List MappedSeen) →
    IsStored ino size stored blocks →
    StandsFor size stored blocks (stored_state ino size stored blocks)
stored-stands ino size stored blocks given =
    sized-stands ino size stored blocks (record {
      images = λ image is. ap (λ ws. get_or ws 0 0) (given.sure image is) ∙ given.size_is;
      now = given.size_is;
    }) given.mapped

-- an empty file

all-off : (tags : List Flag) (block : ℕ) → list_all is_off tags ≡ true →
    get_or tags block Off ≡ Off
all-off [] block h = refl
all-off (Off ∷ tags) zero h = refl
all-off (Off ∷ tags) (suc block) h = all-off tags block h
all-off (On ∷ tags) block h = cc
all-off (Unsure ∷ tags) block h = cc

pub empty-file : (core : Core) → IsEmpty core → HasFile core 0 []
empty-file core empty = record {
  fresh = fresh-empty core empty;
  long = ap length empty.base;
  tags = λ block less. all-off core.tags block empty.tags;
  bytes = λ block seen is. cc;
}

pub none-stored : (ino : ℕ) (size : Seen WordStep) → IsSure size →
    get_or (words_of size) 0 0 ≡ 0 → IsStored ino size 0 []
none-stored ino size sure zero_ = record { sure = sure; size_is = zero_; mapped = tt }

-- ---- a state that is made

pub state-stored : {R B : Type 0} {g : _} (words : R → Seen WordStep) (bytes : B → Seen BlockStep)
    (ino : ℕ) (size : R) (tracker : Tracker (Live R g) (Doubt R g) B) (stored : ℕ)
    (blocks : List (Mapped B)) → view_of tracker ≡ brought blocks (stored_view stored) →
    state_view words bytes (record { ino = ino; size = size; tracker = tracker })
    ≡ stored_state ino (words size) stored (map (told_mapped bytes) blocks)
state-stored {R} {B} {g} words bytes ino size tracker stored blocks is =
    ap (λ v. record {
      ino = ino;
      size = words size;
      tracker = told (held_of words) (seens_of words) bytes v;
    }) is
    ∙ ap (λ (t : TrackerView Held Seens (Seen BlockStep)).
    record { ino = ino; size = words size; tracker = t })
    (told-homes (held_of {g = g} words) (seens_of {g = g} words) bytes stored blocks)

pub homes-within : {B : Type 0} (tell : B → Seen BlockStep) (ino low : ℕ) (blocks : List (Mapped B))
    (k : ℕ) (d : Mapped B) → AreMapped ino low (map (told_mapped tell) blocks) →
    k < length blocks → (get_or blocks k d).at < FILE_BLOCKS
homes-within tell ino low [] k d are less = absurd (omega (arith, less))
homes-within tell ino low (mapped ∷ rest) zero d are less = are.0.within
homes-within tell ino low (mapped ∷ rest) (suc k) d are less =
    homes-within tell ino (mapped.at + 1) rest k d are.1 (omega (arith, less))
