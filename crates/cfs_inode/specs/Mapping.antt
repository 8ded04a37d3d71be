-- All blocks that a request needs are mapped.
use Rattle.std.specs.Prelude.{ℕ, ◌≡◌, Bool, true, Some, None, List, [], ◌∷◌, map}
use Rattle.std.specs.List.{list_all}
use Rattle.cfs_file.specs.declared.span.Span.{Span}
use Rattle.cfs_core.specs.declared.event.Event.{Event}
use Rattle.cfs_core.specs.declared.event.Event.TheVariants as events
use Rattle.cfs_pmem.specs.declared.trace.Asked.{Asked}
use Rattle.cfs_tracker.specs.Admit.{first_unmapped}
use Rattle.cfs_inode.specs.Makes.{CallMakes}
use Rattle.cfs_inode.specs.Tagging.{Blocks, Tags}
use Rattle.cfs_inode.specs.View.{StateView}

-- a block of the file whose tag was tried, and whether that was kept
pub record Tagged : Type 0 where
  pub block : ℕ
  pub kept : Bool

-- The tags that were tried, one after another, each of the first block that is not mapped.
abbrev pub TagsEach : Bool → Bool → Span → List Tagged → List Asked → Blocks → StateView →
    List Asked → Blocks → StateView → Type 0
TagsEach obeys keeps span [] asked_old stock_old old asked_new stock_new new =
    (asked_new ≡ asked_old) × ((stock_new ≡ stock_old) × (new ≡ old))
TagsEach obeys keeps span (try ∷ tries) asked_old stock_old old asked_new stock_new new =
    (asked : List Asked) × (stock : Blocks) × (mid : StateView)
    × (first_unmapped old.tracker.cells span ≡ Some try.block)
    × (Tags obeys keeps try.block try.kept asked_old stock_old old asked stock mid
    × TagsEach obeys keeps span tries asked stock mid asked_new stock_new new)

abbrev pub tag_events : List Tagged → List Event
tag_events tries = map (λ t. events.Tag t.block t.kept) tries

-- Such tags were tried. Where all were kept, all blocks that the span needs are mapped. So the call
-- is these tags.
pub record MapsBlocks (obeys keeps : Bool) (span : Span) (kept : Bool) (asked_old : List Asked)
    (stock_old : Blocks) (old : StateView) (asked_new : List Asked) (stock_new : Blocks)
    (new : StateView) : Type 0 where
  pub tries : List Tagged
  pub each : TagsEach obeys keeps span tries asked_old stock_old old asked_new stock_new new
  pub all : kept ≡ list_all (λ t. t.kept) tries
  pub mapped : kept ≡ true → first_unmapped new.tracker.cells span ≡ None
  pub makes : CallMakes (tag_events tries) asked_old old asked_new new
