-- A block past the stored size is given up.
use Rattle.std.proofs.Common.{◌≡◌, ◌∙◌, ◌*◌, ◌≤◌, ◌<◌, ◌+◌, ◌&&◌, ap, arith, get_or, inl, inr, List}
use Rattle.std.proofs.lemmas.List.{set-set}
use Rattle.std.proofs.Common.{[], ◌∷◌, length, Option, None, Some, Ok, Err, refl, set, subst, true}
use Rattle.std.proofs.Common.{false, ℕ, Bool}
use Rattle.std.specs.Prelude.{is_none, nat_lt, nat_le, not}
use Rattle.std.specs.List.{list_any, range_with_len}
use Rattle.std.proofs.lemmas.Bool.Decides.{nat_tests}
use Rattle.std.proofs.lemmas.Grind.{get_or-set_at}
use Rattle.cfs_file.specs.declared.sizes.TheConstants.{BLOCK_LEN, FILE_BLOCKS}
use Rattle.cfs_core.specs.declared.event.Event.TheVariants as events
use Rattle.cfs_core.specs.declared.flag.Flag.{Flag}
use Rattle.cfs_core.specs.declared.flag.Flag.TheVariants.{Off, On, Unsure}
use Rattle.cfs_core.specs.declared.inode_core.Core.{Core}
use Rattle.cfs_core.specs.Words.{block_span}
use Rattle.cfs_core.specs.May.{may}
use Rattle.cfs_core.specs.After.{after}
use Rattle.cfs_core.proofs.Legal.{both}
use Rattle.cfs_pmem.specs.declared.trace.Asked.{Asked}
use Rattle.cfs_pmem.specs.Images.{Seen}
use Rattle.cfs_pmem.proofs.AllMomentLemmas.{all_weaker}
use Rattle.cfs_pmem.proofs.MomentLemmas.{at_end}
use Rattle.cfs_block.specs.BlockImages as blocks
use Rattle.cfs_block.specs.BlockImages.{AllBlockImages, BlockStep, Content, IsSureBlock, IsUntagged}
use Rattle.cfs_block.specs.BlockImages.{content_of, kept}
use Rattle.cfs_block.specs.BlockOps.{SetsTag}
use Rattle.cfs_medium.specs.BlockEvents.{BlockLeads, IsBlank}
use Rattle.cfs_medium.specs.Shows.{Recovers, Shows}
use Rattle.cfs_medium.specs.Store.{tag_of}
use Rattle.cfs_medium.specs.World.{Remains, World}
use Rattle.cfs_medium.specs.WorldCalls.{with_block}
use Rattle.cfs_medium.proofs.BlockEvents.{trims-show}
use Rattle.cfs_tracker.specs.declared.cell.Cell.{Cell}
use Rattle.cfs_tracker.specs.declared.cell.Cell.TheVariants as kinds
use Rattle.cfs_tracker.specs.Cells.{cell_at, held_in, moving, with_cell}
use Rattle.cfs_tracker.specs.Follows.{CellStands, Follows}
use Rattle.cfs_tracker.specs.Trim.{is_doubt_in, is_held, is_live_in, is_moving, is_past, left_cell}
use Rattle.cfs_tracker.specs.Trim.{next_trim}
use Rattle.cfs_tracker.specs.View.{TrackerView}
use Rattle.cfs_tracker.proofs.Celling.{cell-here}
use Rattle.cfs_tracker.proofs.Entries.{found-test}
use Rattle.cfs_tracker.proofs.Tagging.{tags-count}
use Rattle.cfs_tracker.proofs.Trimming.{follows-trimmed}
use Rattle.cfs_inode.specs.Makes.{AnyBetween, CallMakes}
use Rattle.cfs_inode.specs.Marking.{answer_for}
use Rattle.cfs_inode.specs.Stands.{IsAtRest, Stands}
use Rattle.cfs_inode.specs.Trims.{block_at, with_block_cell}
use Rattle.cfs_inode.specs.View.{StateView}
use Rattle.cfs_inode.proofs.Blocks.{block-put, follows-moving, held-free, retagged}
use Rattle.cfs_inode.proofs.Blocks.{with-none}
use Rattle.cfs_inode.proofs.Zeros.{blank-tried, past-blank}
use Rattle.cfs_inode.proofs.Goods.{good}

-- what a call answers is no matter to what it did, but for whether it went well

pub tags-ok : {T E : Type 0} {obeys keeps : Bool} {tag : ℕ} (t : T)
    {asked_old asked_new : List Asked} {old new : Seen BlockStep} →
    SetsTag {T = T} {E = E} obeys keeps tag (Ok t) asked_old old asked_new new →
    SetsTag {T = Unit {0}} {E = Unit {0}} obeys keeps tag (Ok tt) asked_old old asked_new new
tags-ok t sets = record {
  ok = sets.ok;
  sure = sets.sure;
  err = tt;
  does = λ obeys. record { all = (sets.does obeys).all; front = tt };
  moments = sets.moments;
}

pub tags-err : {T E : Type 0} {obeys keeps : Bool} {tag : ℕ} (e : E)
    {asked_old asked_new : List Asked} {old new : Seen BlockStep} →
    SetsTag {T = T} {E = E} obeys keeps tag (Err e) asked_old old asked_new new →
    SetsTag {T = Unit {0}} {E = Unit {0}} obeys keeps tag (Err tt) asked_old old asked_new new
tags-err e sets = record {
  ok = tt;
  sure = tt;
  err = sets.err;
  does = λ obeys. record { all = tt; front = (sets.does obeys).front };
  moments = sets.moments;
}

-- ---- what the tracker follows

pub past-low : {S D B : Type 0} (view : TrackerView S D B) (block : ℕ) →
    is_past view block ≡ true → block < FILE_BLOCKS
past-low view block past =
    let low = (both (nat_lt block FILE_BLOCKS)
    (nat_le view.stored (BLOCK_LEN * block)
    && (not (list_any (is_live_in (block_span block)) view.entries)
    && not (is_doubt_in (block_span block) view.doubt))) past).0 in
    grind (arith, nat_tests)

pub held-moves : {B : Type 0} (cell : Cell B) (home : B) → held_in cell ≡ Some home →
    is_moving (moving cell) ≡ true
held-moves kinds.Hole home h = cc
held-moves (kinds.Home x) home h = refl
held-moves (kinds.Unsure x) home h = refl
held-moves (kinds.Lent place) home h = cc
held-moves (kinds.Moving is_sure) home h = cc

pub follows-trim : {S D B : Type 0} (view : TrackerView S D B) (core : Core) (block : ℕ)
    (home : B) (left : Option B) → is_past view block ≡ true →
    held_in (cell_at view.cells block) ≡ Some home → Follows view core →
    (may core (events.Trim block (is_none left)) ≡ true)
    × Follows (with_cell block (left_cell left) view)
    (after core (events.Trim block (is_none left)))
follows-trim view core block home left past has follows =
    let cell = moving (cell_at view.cells block) in
    let less = past-low view block past in
    let under = follows-moving view core block home less has follows in
    let moves : is_moving (cell_at (set view.cells block cell) block) ≡ true =
    ap is_moving (cell-here view.cells block cell (omega (arith, less, follows.many)))
    ∙ held-moves (cell_at view.cells block) home has in
    let done = follows-trimmed (with_cell block cell view) core block left past moves under in (
      done.0,
      subst (λ cells. Follows (record view { cells = cells })
          (after core (events.Trim block (is_none left))))
          (set-set view.cells block cell (left_cell left)) done.1,
    )

-- ---- the devices

trim-leads : (old : StateView) (n block : ℕ) (was now : Seen BlockStep) (freed : Bool)
    (core : Core) (world : World) (obeys keeps : Bool) (asked_old asked_new : List Asked) →
    is_past old.tracker block ≡ true → block_at old block ≡ Some was →
    SetsTag obeys keeps 0 (answer_for freed) asked_old was asked_new now →
    Stands old core world → length core.log + 2 ≤ n →
    BlockLeads old.ino n block (after core (events.Trim block false))
    (after core (events.Trim block true)) (after core (events.Trim block false)) world now
    (answer_for freed) asked_old asked_new
trim-leads old n block was now freed core world obeys keeps asked_old asked_new past has sets stands
    bound =
    let gone = follows-trim old.tracker core block was None past has stands.follows in
    let left = follows-trim old.tracker core block was (Some now) past has stands.follows in
    trims-show old.ino n block core world was now obeys keeps (answer_for freed) asked_old
    asked_new (good (after core (events.Trim block false)) left.1.reached) stands.shows gone.0
    bound (stands.blocks block was (past-low old.tracker block past) has) sets

abbrev pub left_for : Bool → Seen BlockStep → Option (Seen BlockStep)
left_for true now = None
left_for false now = Some now

shown : (ino n block : ℕ) (freed : Bool) (core : Core) (world : World) (now : Seen BlockStep)
    (asked_old asked_new : List Asked) →
    BlockLeads ino n block (after core (events.Trim block false))
    (after core (events.Trim block true)) (after core (events.Trim block false)) world now
    (answer_for freed) asked_old asked_new →
    Shows ino (after core (events.Trim block freed)) (with_block block (Some now) world)
shown ino n block true core world now asked_old asked_new leads = leads.ok
shown ino n block false core world now asked_old asked_new leads = leads.err

trim-may : {S D : Type 0} (view : TrackerView S D (Seen BlockStep)) (core : Core) (block : ℕ)
    (freed : Bool) (now : Seen BlockStep) →
    (may core (events.Trim block (is_none (left_for freed now))) ≡ true)
    × Follows (with_cell block (left_cell (left_for freed now)) view)
    (after core (events.Trim block (is_none (left_for freed now)))) →
    (may core (events.Trim block freed) ≡ true)
    × Follows (with_cell block (left_cell (left_for freed now)) view)
    (after core (events.Trim block freed))
trim-may view core block true now done = done
trim-may view core block false now done = done

left-held : (freed : Bool) (now seen : Seen BlockStep) →
    held_in (left_cell (left_for freed now)) ≡ Some seen → Some now ≡ Some seen
left-held true now seen has = cc
left-held false now seen has = has

left-rests : (ino block : ℕ) (freed : Bool) (now : Seen BlockStep) →
    AllBlockImages now (IsBlank (tag_of ino block)) →
    IsAtRest ino block (left_cell (left_for freed now))
left-rests ino block true now blank = tt
left-rests ino block false now blank = blank

held-blank : (ino block : ℕ) (cell : Cell (Seen BlockStep)) (flag : Flag) (was : Seen BlockStep) →
    held_in cell ≡ Some was → CellStands cell flag → IsAtRest ino block cell →
    (flag ≡ On → AllBlockImages was (IsBlank (tag_of ino block))) →
    AllBlockImages was (IsBlank (tag_of ino block))
held-blank ino block kinds.Hole flag was h stands rest on = cc
held-blank ino block (kinds.Home x) flag was h stands rest on = on stands
held-blank ino block (kinds.Unsure x) flag was h stands rest on =
    let same : x ≡ was = cc in
    subst (λ (s : Seen BlockStep). AllBlockImages s (IsBlank (tag_of ino block))) same rest
held-blank ino block (kinds.Lent place) flag was h stands rest on = cc
held-blank ino block (kinds.Moving is_sure) flag was h stands rest on = cc

-- a block that may be given up holds zeros in every image
was-blank : (old : StateView) (block : ℕ) (was now : Seen BlockStep) (core : Core) (world : World) →
    is_past old.tracker block ≡ true → block_at old block ≡ Some was → Stands old core world →
    AllBlockImages was (IsBlank (tag_of old.ino block))
was-blank old block was now core world past has stands =
    let less = past-low old.tracker block past in
    let left = follows-trim old.tracker core block was (Some now) past has stands.follows in
    let unsure : get_or (set core.tags block Unsure) block Off ≡ Unsure =
    get_or-set_at core.tags block block Unsure Off refl
    (omega (arith, less, tags-count old.tracker core stands.follows)) in
    held-blank old.ino block (cell_at old.tracker.cells block) (get_or core.tags block Off) was has
    (stands.follows.cells block less) (stands.rest block less)
    (λ on. past-blank old.ino block core world was stands.follows.reached left.1.reached unsure on
    less stands.shows (stands.blocks block was less has))

-- ---- the call

pub trim-made : (old : StateView) (block : ℕ) (was now : Seen BlockStep) (freed obeys keeps : Bool)
    (asked_old asked_new : List Asked) → is_past old.tracker block ≡ true →
    block_at old block ≡ Some was →
    SetsTag obeys keeps 0 (answer_for freed) asked_old was asked_new now →
    CallMakes (events.Trim block freed ∷ []) asked_old old asked_new
    (with_block_cell block (left_cell (left_for freed now)) old)
trim-made old block was now freed obeys keeps asked_old asked_new past has sets =
    λ jobs core world together.
    let stands = together.stands in
    let done = trim-may old.tracker core block freed now
    (follows-trim old.tracker core block was (left_for freed now) past has stands.follows) in
    let blank = was-blank old block was now core world past has stands in
    let leads : (n : ℕ) → length core.log + 2 ≤ n →
    BlockLeads old.ino n block (after core (events.Trim block false))
    (after core (events.Trim block true)) (after core (events.Trim block false)) world now
    (answer_for freed) asked_old asked_new =
    λ n bound. trim-leads old n block was now freed core world obeys keeps asked_old asked_new past
    has sets stands bound in
    record {
      run = (done.0, tt);
      world = with_block block (Some now) world;
      moments = λ n bound.
          let give : (remains : Remains) →
          Recovers old.ino n (after core (events.Trim block false)) remains →
          AnyBetween (λ one. Recovers old.ino n one remains) core
          (events.Trim block freed ∷ []) =
          λ remains recovers. inr (inl (inl recovers)) in
          all_weaker give (leads n bound.0).moments;
      stands = retagged old block (left_cell (left_for freed now)) (Some now) jobs core
          (after core (events.Trim block freed)) world (with_block block (Some now) world)
          (record {
            less = past-low old.tracker block past;
            has = block-put block (Some now) world;
            follows = done.1;
            shows = shown old.ino (length core.log + 2) block freed core world now asked_old
                asked_new (leads (length core.log + 2) (omega arith));
            tracks = refl;
            free = with-none old.tracker core block
                (held-free (cell_at old.tracker.cells block) was has) stands.follows;
            held = left-held freed now;
            rest = left-rests old.ino block freed now
                (λ content image. blank-tried (tag_of old.ino block) 0 was content (inl refl) blank
                (at_end sets.moments content image));
          }) together;
    }

-- ---- what is named

pub is-held-some : {B : Type 0} (cell : Cell B) → is_held cell ≡ true →
    (home : B) × (held_in cell ≡ Some home)
is-held-some kinds.Hole h = cc
is-held-some (kinds.Home home) h = (home, refl)
is-held-some (kinds.Unsure home) h = (home, refl)
is-held-some (kinds.Lent place) h = cc
is-held-some (kinds.Moving is_sure) h = cc

pub trim-held : {S D B : Type 0} (view : TrackerView S D B) (block : ℕ) →
    next_trim view ≡ Some block →
    (home : B) × (held_in (cell_at view.cells block) ≡ Some home)
trim-held view block named =
    let test = found-test (λ k. is_held (cell_at view.cells k) && is_past view k)
    (range_with_len 0 (length view.cells)) block named in
    is-held-some (cell_at view.cells block)
    (both (is_held (cell_at view.cells block)) (is_past view block) test).0

pub moving-here : {B : Type 0} (cells : List (Cell B)) (block : ℕ) (home : B) →
    block < length cells → held_in (cell_at cells block) ≡ Some home →
    is_moving (cell_at (set cells block (moving (cell_at cells block))) block) ≡ true
moving-here cells block home less has =
    ap is_moving (cell-here cells block (moving (cell_at cells block)) less)
    ∙ held-moves (cell_at cells block) home has

-- once its tag was taken away, no image has one
pub untagged-sure : (old new : Seen BlockStep) → new ≡ kept (blocks.retagged 0 old) →
    IsSureBlock new → AllBlockImages new IsUntagged
untagged-sure old new is sure = λ image h.
    ap (λ (c : Content). c.tag) (sure image h)
    ∙ ap (λ (s : Seen BlockStep). (content_of s).tag) is
