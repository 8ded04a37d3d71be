-- Blocks are tagged.
use Rattle.std.proofs.Common.{◌≡◌, ◌∙◌, ◌⊎◌, ◌≤◌, ◌<◌, ◌+◌, ap, arith, get_or, inl, inr, List, []}
use Rattle.std.proofs.lemmas.List.{set-set}
use Rattle.std.proofs.Common.{◌∷◌, length, None, Some, refl, set, subst, true, false, ℕ, Bool}
use Rattle.cfs_file.specs.declared.sizes.TheConstants.{FILE_BLOCKS}
use Rattle.cfs_core.specs.declared.event.Event.TheVariants as events
use Rattle.cfs_core.specs.declared.flag.Flag.{Flag}
use Rattle.cfs_core.specs.declared.flag.Flag.TheVariants.{Off}
use Rattle.cfs_core.specs.declared.inode_core.Core.{Core}
use Rattle.cfs_core.specs.Words.{can_be}
use Rattle.cfs_core.specs.May.{may}
use Rattle.cfs_core.specs.After.{after}
use Rattle.cfs_pmem.specs.declared.trace.Asked.{Asked}
use Rattle.cfs_pmem.specs.Images.{Seen}
use Rattle.cfs_pmem.proofs.AllMomentLemmas.{all_after, all_begun, all_weaker}
use Rattle.cfs_pmem.proofs.MomentLemmas.{at_end}
use Rattle.cfs_block.specs.BlockImages.{AllBlockImages, BlockStep, Content, IsZero, content_of}
use Rattle.cfs_block.specs.BlockOps.{SetsTag}
use Rattle.cfs_block.proofs.BlockLemmas.{now_is_image}
use Rattle.cfs_medium.specs.BlockEvents.{BlockLeads, IsBlank}
use Rattle.cfs_medium.specs.Shows.{Recovers, Shows, is_for}
use Rattle.cfs_medium.specs.Store.{tag_of}
use Rattle.cfs_medium.specs.World.{Remains, World}
use Rattle.cfs_medium.specs.WorldCalls.{HasBlock, IsBare, WorldMoments, with_block}
use Rattle.cfs_medium.proofs.BlockEvents.{free-for}
use Rattle.cfs_medium.proofs.SizeSteps.{blocks-come}
use Rattle.cfs_medium.proofs.TagEvents.{tags-show}
use Rattle.cfs_medium.proofs.LiveLeft.{shown-recovers}
use Rattle.cfs_medium.proofs.Worlds.{at_other, at_place}
use Rattle.cfs_tracker.specs.declared.cell.Cell.{Cell}
use Rattle.cfs_tracker.specs.declared.cell.Cell.TheVariants as kinds
use Rattle.cfs_tracker.specs.Admit.{is_mapped}
use Rattle.cfs_tracker.specs.Cells.{cell_at, held_in, is_bare, moving, tagged_cell, with_cell}
use Rattle.cfs_tracker.specs.Follows.{CellStands, Follows}
use Rattle.cfs_tracker.specs.View.{TrackerView}
use Rattle.cfs_tracker.proofs.Celling.{cell-here, is_lent_cell}
use Rattle.cfs_tracker.proofs.Tagging.{follows-tagged}
use Rattle.cfs_inode.specs.Makes.{AnyBetween, CallMakes}
use Rattle.cfs_inode.specs.Marking.{answer_for}
use Rattle.cfs_inode.specs.Stands.{IsAtRest, Stands}
use Rattle.cfs_inode.specs.Trims.{block_at, with_block_cell}
use Rattle.cfs_inode.specs.View.{Held, Seens, StateView}
use Rattle.cfs_inode.proofs.Blocks.{block-put, follows-moving, retagged, with-none}
use Rattle.cfs_inode.proofs.Goods.{good}
use Rattle.cfs_inode.proofs.Zeros.{blank-tried, zero-blank}

-- ---- what the tracker follows

-- no block is kept there, or one whose last tag failed
abbrev pub MayTag : Cell (Seen BlockStep) → Type 0
MayTag cell = (cell ≡ kinds.Hole) ⊎ ((was : Seen BlockStep) × (cell ≡ kinds.Unsure was))

-- the block may be tagged, and the tracker follows that
abbrev pub FollowsTag : TrackerView Held Seens (Seen BlockStep) → Core → ℕ → Seen BlockStep →
    Bool → Type 0
FollowsTag view core block now kept =
    (may core (events.Tag block kept) ≡ true)
    × Follows (with_cell block (tagged_cell now kept) view) (after core (events.Tag block kept))

follows-again : (view : TrackerView Held Seens (Seen BlockStep)) (core : Core) (block : ℕ)
    (was now : Seen BlockStep) (kept : Bool) → block < FILE_BLOCKS →
    cell_at view.cells block ≡ kinds.Unsure was → Follows view core →
    FollowsTag view core block now kept
follows-again view core block was now kept less is follows =
    let cell = moving (cell_at view.cells block) in
    let held : held_in (cell_at view.cells block) ≡ Some was = ap held_in is in
    let under = follows-moving view core block was less held follows in
    let bare : is_bare (cell_at (set view.cells block cell) block) ≡ true =
    ap is_bare (cell-here view.cells block cell (omega (arith, less, follows.many)))
    ∙ ap (λ (c : Cell (Seen BlockStep)). is_bare (moving c)) is in
    let done = follows-tagged (with_cell block cell view) core block now kept less bare under in (
      done.0,
      subst (λ cells. Follows (record view { cells = cells }) (after core (events.Tag block kept)))
          (set-set view.cells block cell (tagged_cell now kept)) done.1,
    )

pub follows-tag : (view : TrackerView Held Seens (Seen BlockStep)) (core : Core) (block : ℕ)
    (now : Seen BlockStep) (kept : Bool) → block < FILE_BLOCKS →
    MayTag (cell_at view.cells block) → Follows view core → FollowsTag view core block now kept
follows-tag view core block now kept less (inl hole) follows =
    follows-tagged view core block now kept less (ap is_bare hole) follows
follows-tag view core block now kept less (inr again) follows =
    follows-again view core block again.0 now kept less again.1 follows

tag-free : (cell : Cell (Seen BlockStep)) → MayTag cell → is_lent_cell cell ≡ false
tag-free cell (inl hole) = ap is_lent_cell hole
tag-free cell (inr again) = ap is_lent_cell again.1

-- ---- the devices

tag-leads : (old : StateView) (n block : ℕ) (home now : Seen BlockStep) (kept : Bool)
    (core : Core) (world : World) (obeys keeps : Bool) (asked_old asked_new : List Asked) →
    block < FILE_BLOCKS → MayTag (cell_at old.tracker.cells block) → Follows old.tracker core →
    Shows old.ino core world → world.blocks block ≡ Some home →
    0 < length (content_of home).bytes → AllBlockImages home (IsBlank (tag_of old.ino block)) →
    SetsTag obeys keeps (tag_of old.ino block) (answer_for kept) asked_old home asked_new now →
    length core.log + 2 ≤ n →
    BlockLeads old.ino n block (after core (events.Tag block false))
    (after core (events.Tag block true)) (after core (events.Tag block false)) world now
    (answer_for kept) asked_old asked_new
tag-leads old n block home now kept core world obeys keeps asked_old asked_new less tagging follows
    shows here full blank sets bound =
    tags-show old.ino n block core world home now obeys keeps (answer_for kept) asked_old asked_new
    (good (after core (events.Tag block false))
    (follows-tag old.tracker core block now false less tagging follows).1.reached)
    shows (follows-tag old.tracker core block now true less tagging follows).0 bound here full blank
    sets

shown : (ino n block : ℕ) (kept : Bool) (core : Core) (world : World) (now : Seen BlockStep)
    (asked_old asked_new : List Asked) →
    BlockLeads ino n block (after core (events.Tag block false))
    (after core (events.Tag block true)) (after core (events.Tag block false)) world now
    (answer_for kept) asked_old asked_new →
    Shows ino (after core (events.Tag block kept)) (with_block block (Some now) world)
shown ino n block true core world now asked_old asked_new leads = leads.ok
shown ino n block false core world now asked_old asked_new leads = leads.err

-- ---- the block comes in, without a step

-- the world that has it, with what is shown of that
pub record HasCome (old : StateView) (block : ℕ) (home : Seen BlockStep) (core : Core)
    (world : World) (asked : List Asked) : Type 0 where
  pub next : World
  pub has : HasBlock block (Some home) world next
  pub shows : Shows old.ino core next
  pub moments : (n : ℕ) → length core.log + 2 ≤ n →
      WorldMoments (Recovers old.ino n core) asked world asked next

off-bare : (ino block : ℕ) (core : Core) (world : World) → get_or core.tags block Off ≡ Off →
    block < FILE_BLOCKS → Shows ino core world → IsBare (world.blocks block)
off-bare ino block core world off less shows = λ content image.
    let fits = (shows.blocks block less).images content image in
    fits.free (off-not (get_or core.tags block Off) (is_for ino block content) off fits.tag_is)
  where
    off-not : (flag : Flag) (bit : Bool) → flag ≡ Off → can_be flag bit ≡ true → bit ≡ false
    off-not flag true off can = (let none : can_be flag true ≡ false = rw off refl in cc)
    off-not flag false off can = refl

hole-off : (cell : Cell (Seen BlockStep)) (flag : Flag) → cell ≡ kinds.Hole →
    CellStands cell flag → flag ≡ Off
hole-off cell flag hole stands =
    subst (λ (c : Cell (Seen BlockStep)). CellStands c flag) hole stands

pub zero-comes : (old : StateView) (block : ℕ) (home : Seen BlockStep) (core : Core)
    (world : World) (asked : List Asked) → block < FILE_BLOCKS →
    cell_at old.tracker.cells block ≡ kinds.Hole → Stands old core world →
    0 < length (content_of home).bytes → AllBlockImages home IsZero →
    HasCome old block home core world asked
zero-comes old block home core world asked less hole stands full zero_ =
    let off = hole-off (cell_at old.tracker.cells block) (get_or core.tags block Off) hole
    (stands.follows.cells block less) in
    let bare : IsBare (Some home) = λ content image.
    ap (λ (c : Content). c.tag) (zero_ content image) in
    let now_bare : (seen : Seen BlockStep) → Some home ≡ Some seen →
    is_for old.ino block (content_of seen) ≡ false =
    λ seen is.
    free-for old.ino block (content_of seen)
    (let same : home ≡ seen = cc in
    subst (λ (s : Seen BlockStep). (content_of s).tag ≡ 0) same
    (ap (λ (c : Content). c.tag) (zero_ (content_of home) (now_is_image home.history full)))) in
    let can : can_be (get_or core.tags block Off) false ≡ true = rw off refl in
    let come : (n : ℕ) → length core.log + 2 ≤ n →
    WorldMoments (Recovers old.ino n core) asked world asked (with_block block (Some home) world)
    × Shows old.ino core (with_block block (Some home) world) =
    λ n bound. blocks-come old.ino n block core world (Some home) asked stands.shows
    (off-bare old.ino block core world off less stands.shows) bare now_bare
    (good core stands.follows.reached) bound can in
    record {
      next = with_block block (Some home) world;
      has = block-put block (Some home) world;
      shows = (come (length core.log + 2) (omega arith)).1;
      moments = λ n bound. (come n bound).0;
    }

pub home-there : (old : StateView) (block : ℕ) (home : Seen BlockStep) (core : Core)
    (world : World) (asked : List Asked) → block < FILE_BLOCKS →
    cell_at old.tracker.cells block ≡ kinds.Unsure home → Stands old core world →
    HasCome old block home core world asked
home-there old block home core world asked less is stands = record {
  next = world;
  has = record {
    size = refl;
    slots = λ place. refl;
    here_is = stands.blocks block home less (ap held_in is);
    others = λ other apart. refl;
  };
  shows = stands.shows;
  moments = λ n bound.
      all_begun asked world tt
      (shown-recovers old.ino n core world (good core stands.follows.reached) stands.shows bound);
}

-- ---- the call

both-has : (block : ℕ) (home now : Seen BlockStep) (world next : World) →
    HasBlock block (Some home) world next →
    HasBlock block (Some now) world (with_block block (Some now) next)
both-has block home now world next has = record {
  size = has.size;
  slots = has.slots;
  here_is = at_place block (Some now) (next.blocks block);
  others = λ other apart.
      at_other other block (Some now) (next.blocks other) apart ∙ has.others other apart;
}

tagged-held : (kept : Bool) (now seen : Seen BlockStep) →
    held_in (tagged_cell now kept) ≡ Some seen → Some now ≡ Some seen
tagged-held true now seen has = has
tagged-held false now seen has = has

tagged-rests : (ino block : ℕ) (kept : Bool) (now : Seen BlockStep) →
    AllBlockImages now (IsBlank (tag_of ino block)) → IsAtRest ino block (tagged_cell now kept)
tagged-rests ino block true now blank = tt
tagged-rests ino block false now blank = blank

-- it may be tagged, and stands there
record IsReady (old : StateView) (block : ℕ) (home : Seen BlockStep) (core : Core) (world : World)
    (asked : List Asked) : Type 0 where
  pub tagging : MayTag (cell_at old.tracker.cells block)
  pub blank : AllBlockImages home (IsBlank (tag_of old.ino block))
  pub come : HasCome old block home core world asked

tag-done : (old : StateView) (block : ℕ) (home now : Seen BlockStep) (kept obeys keeps : Bool)
    (asked_old asked_new : List Asked) → block < FILE_BLOCKS →
    0 < length (content_of home).bytes →
    SetsTag obeys keeps (tag_of old.ino block) (answer_for kept) asked_old home asked_new now →
    ((core : Core) (world : World) → Stands old core world →
    IsReady old block home core world asked_old) →
    CallMakes (events.Tag block kept ∷ []) asked_old old asked_new
    (with_block_cell block (tagged_cell now kept) old)
tag-done old block home now kept obeys keeps asked_old asked_new less full sets ready =
    λ jobs core world together.
    let stands = together.stands in
    let is = ready core world stands in
    let come = is.come in
    let done = follows-tag old.tracker core block now kept less is.tagging stands.follows in
    let leads : (n : ℕ) → length core.log + 2 ≤ n →
    BlockLeads old.ino n block (after core (events.Tag block false))
    (after core (events.Tag block true)) (after core (events.Tag block false)) come.next now
    (answer_for kept) asked_old asked_new =
    λ n bound. tag-leads old n block home now kept core come.next obeys keeps asked_old asked_new
    less is.tagging stands.follows come.shows come.has.here_is full is.blank sets bound in
    record {
      run = (done.0, tt);
      world = with_block block (Some now) come.next;
      moments = λ n bound.
          let before : (remains : Remains) → Recovers old.ino n core remains →
          AnyBetween (λ one. Recovers old.ino n one remains) core (events.Tag block kept ∷ []) =
          λ remains recovers. inl recovers in
          let during : (remains : Remains) →
          Recovers old.ino n (after core (events.Tag block false)) remains →
          AnyBetween (λ one. Recovers old.ino n one remains) core (events.Tag block kept ∷ []) =
          λ remains recovers. inr (inl (inl recovers)) in
          all_after (all_weaker before (come.moments n bound.0))
          (all_weaker during (leads n bound.0).moments);
      stands = retagged old block (tagged_cell now kept) (Some now) jobs core
          (after core (events.Tag block kept)) world (with_block block (Some now) come.next)
          (record {
            less = less;
            has = both-has block home now world come.next come.has;
            follows = done.1;
            shows = shown old.ino (length core.log + 2) block kept core come.next now asked_old
                asked_new (leads (length core.log + 2) (omega arith));
            tracks = refl;
            free = with-none old.tracker core block
                (tag-free (cell_at old.tracker.cells block) is.tagging) stands.follows;
            held = tagged-held kept now;
            rest = tagged-rests old.ino block kept now
                (λ content image. blank-tried (tag_of old.ino block) (tag_of old.ino block) home
                content (inr refl) is.blank (at_end sets.moments content image));
          }) together;
    }

-- a cell that has none and is not sure of one is a hole between calls
rest-hole : (ino block : ℕ) (cell : Cell (Seen BlockStep)) → is_mapped cell ≡ false →
    held_in cell ≡ None → IsAtRest ino block cell → cell ≡ kinds.Hole
rest-hole ino block kinds.Hole unmapped none rest = refl
rest-hole ino block (kinds.Home x) unmapped none rest = cc
rest-hole ino block (kinds.Unsure x) unmapped none rest = cc
rest-hole ino block (kinds.Lent place) unmapped none rest = cc
rest-hole ino block (kinds.Moving is_sure) unmapped none rest = absurd rest

unmapped-unsure : (cell : Cell (Seen BlockStep)) (home : Seen BlockStep) →
    is_mapped cell ≡ false → held_in cell ≡ Some home → cell ≡ kinds.Unsure home
unmapped-unsure kinds.Hole home unmapped has = cc
unmapped-unsure (kinds.Home x) home unmapped has = cc
unmapped-unsure (kinds.Unsure x) home unmapped has = cc
unmapped-unsure (kinds.Lent place) home unmapped has = cc
unmapped-unsure (kinds.Moving is_sure) home unmapped has = cc

-- a block of zeros from elsewhere
pub tag-fresh : (old : StateView) (block : ℕ) (home now : Seen BlockStep)
    (kept obeys keeps : Bool) (asked_old asked_new : List Asked) → block < FILE_BLOCKS →
    is_mapped (cell_at old.tracker.cells block) ≡ false → block_at old block ≡ None →
    AllBlockImages home IsZero → 0 < length (content_of home).bytes →
    SetsTag obeys keeps (tag_of old.ino block) (answer_for kept) asked_old home asked_new now →
    CallMakes (events.Tag block kept ∷ []) asked_old old asked_new
    (with_block_cell block (tagged_cell now kept) old)
tag-fresh old block home now kept obeys keeps asked_old asked_new less unmapped none zero_ full sets
    =
    tag-done old block home now kept obeys keeps asked_old asked_new less full sets
    (λ core world stands.
    let hole = rest-hole old.ino block (cell_at old.tracker.cells block) unmapped none
    (stands.rest block less) in
    record {
      tagging = inl hole;
      blank = zero-blank (tag_of old.ino block) home zero_;
      come = zero-comes old block home core world asked_old less hole stands full zero_;
    })

-- the block whose last tag failed
pub tag-again : (old : StateView) (block : ℕ) (home now : Seen BlockStep)
    (kept obeys keeps : Bool) (asked_old asked_new : List Asked) → block < FILE_BLOCKS →
    is_mapped (cell_at old.tracker.cells block) ≡ false → block_at old block ≡ Some home →
    0 < length (content_of home).bytes →
    SetsTag obeys keeps (tag_of old.ino block) (answer_for kept) asked_old home asked_new now →
    CallMakes (events.Tag block kept ∷ []) asked_old old asked_new
    (with_block_cell block (tagged_cell now kept) old)
tag-again old block home now kept obeys keeps asked_old asked_new less unmapped has full sets =
    let is = unmapped-unsure (cell_at old.tracker.cells block) home unmapped has in
    tag-done old block home now kept obeys keeps asked_old asked_new less full sets
    (λ core world stands. record {
      tagging = inr (home, is);
      blank = subst (λ (c : Cell (Seen BlockStep)). IsAtRest old.ino block c) is
          (stands.rest block less);
      come = home-there old block home core world asked_old less is stands;
    })
