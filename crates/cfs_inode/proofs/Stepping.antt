-- A block of a job comes to hold something else, and all else stays.
use Rattle.std.proofs.Common.{◌≡◌, ◌∙◌, ◌<◌, ap, arith, List, ◌∷◌, Option, None, Some}
use Rattle.std.proofs.Common.{refl, subst, sym, true, ℕ}
use Rattle.std.proofs.lemmas.Bool.{ltb-true}
use Rattle.cfs_pmem.specs.Images.{Seen}
use Rattle.cfs_block.specs.BlockImages.{BlockStep}
use Rattle.cfs_core.specs.declared.inode_core.Core.{Core}
use Rattle.cfs_core.specs.declared.state.State.TheVariants as states
use Rattle.cfs_core.specs.declared.track.Track.{Track}
use Rattle.cfs_core.specs.Words.{has_block, track}
use Rattle.cfs_core_laws.specs.Order.{ascends}
use Rattle.cfs_job.specs.Steps.{core_job, lease_in}
use Rattle.cfs_job.specs.Views.{JobView, TileView}
use Rattle.cfs_medium.specs.Shows.{Shows}
use Rattle.cfs_medium.specs.World.{World}
use Rattle.cfs_medium.specs.WorldCalls.{HasBlock}
use Rattle.cfs_tracker.specs.declared.cell.Cell.{Cell}
use Rattle.cfs_tracker.specs.declared.cell.Cell.TheVariants as kinds
use Rattle.cfs_tracker.specs.Cells.{cell_at, held_in}
use Rattle.cfs_tracker.specs.Follows.{Follows}
use Rattle.cfs_inode.specs.Stands.{AreOnce, IsBeside, IsHeld, JobStands, Together}
use Rattle.cfs_inode.specs.View.{StateView}
use Rattle.cfs_inode.proofs.Blocks.{first-has, held-beside, second-has}
use Rattle.cfs_inode.proofs.Comings.{others-go}

-- ---- the job

-- One block of the job is at `at`. It was `was`, and is `now`.
pub record IsStepped (old new : JobView) (at : ℕ) (was now : Seen BlockStep) : Type 0 where
  pub place_is : new.place ≡ old.place
  pub ino_is : new.ino ≡ old.ino
  pub span_is : new.span ≡ old.span
  pub slots_are : new.slots ≡ old.slots
  pub has : has_block (states.Out (core_job old)) at ≡ true
  pub held : (blocks : ℕ → Option (Seen BlockStep)) → IsHeld old.first blocks →
      IsHeld old.second blocks → blocks at ≡ Some was
  pub first_goes : (world next : World) → HasBlock at (Some now) world next →
      IsHeld old.first world.blocks → IsHeld new.first next.blocks
  pub second_goes : (world next : World) → HasBlock at (Some now) world next →
      IsHeld old.second world.blocks → IsHeld new.second next.blocks

-- the second block of a job is another one than the first
apart-blocks : (first second : Option TileView) (one two : TileView) → first ≡ Some one →
    second ≡ Some two → ascends (lease_in first) (lease_in second) ≡ true → one.at < two.at
apart-blocks first second one two is other up =
    ltb-true one.at two.at
    (subst (λ (o : Option TileView). ascends (lease_in (Some one)) (lease_in o) ≡ true) other
    (subst (λ (o : Option TileView). ascends (lease_in o) (lease_in second) ≡ true) is up))

pub first-stepped : (old : JobView) (was now : TileView) → old.first ≡ Some was →
    now.at ≡ was.at → ascends (lease_in old.first) (lease_in old.second) ≡ true →
    IsStepped old (record old { first = Some now }) was.at was.seen now.seen
first-stepped old was now is same up = record {
  place_is = refl;
  ino_is = refl;
  span_is = refl;
  slots_are = refl;
  has = first-has old was is;
  held = λ blocks first second. subst (λ (o : Option TileView). IsHeld o blocks) is first;
  first_goes = λ world next puts held. ap next.blocks same ∙ puts.here_is;
  second_goes = λ world next puts held.
      held-beside old.second was.at (Some now.seen) world next puts
      (λ other there equal.
      let less = apart-blocks old.first old.second was other is there up in
      omega (arith, less, equal)) held;
}

pub second-stepped : (old : JobView) (was now : TileView) → old.second ≡ Some was →
    now.at ≡ was.at → ascends (lease_in old.first) (lease_in old.second) ≡ true →
    IsStepped old (record old { second = Some now }) was.at was.seen now.seen
second-stepped old was now is same up = record {
  place_is = refl;
  ino_is = refl;
  span_is = refl;
  slots_are = refl;
  has = second-has old was is;
  held = λ blocks first second. subst (λ (o : Option TileView). IsHeld o blocks) is second;
  first_goes = λ world next puts held.
      held-beside old.first was.at (Some now.seen) world next puts
      (λ other there equal.
      let less = apart-blocks old.first old.second other was there is up in
      omega (arith, less, equal)) held;
  second_goes = λ world next puts held. ap next.blocks same ∙ puts.here_is;
}

-- ---- the state and its other jobs

-- What is to be shown where a job's block comes to hold something else.
pub record Steps (state : StateView) (old new : JobView) (at : ℕ) (was now : Seen BlockStep)
    (core next : Core) (world after : World) : Type 0 where
  pub stepped : IsStepped old new at was now
  pub has : HasBlock at (Some now) world after
  pub follows : Follows state.tracker next
  pub shows : Shows state.ino next after
  pub tracks : (q : ℕ) → (q ≡ old.place → ⊥) → track next.tracks q ≡ track core.tracks q
  pub state_is : (track next.tracks old.place).state ≡ states.Out (core_job new)
  pub span_is : (track next.tracks old.place).span ≡ (track core.tracks old.place).span

-- a block that a job has is lent to its place
lent-to : (state : StateView) (job : JobView) (core : Core) (world : World) (at : ℕ) →
    Follows state.tracker core → JobStands state.ino job core world →
    has_block (states.Out (core_job job)) at ≡ true →
    cell_at state.tracker.cells at ≡ kinds.Lent job.place
lent-to state job core world at follows stand has =
    follows.lent job.place at (ap (λ s. has_block s at) stand.state ∙ has)

kept-apart : (state : StateView) (core : Core) (at place block : ℕ) (seen : Seen BlockStep) →
    cell_at state.tracker.cells at ≡ kinds.Lent place →
    held_in (cell_at state.tracker.cells block) ≡ Some seen → block ≡ at → ⊥
kept-apart state core at place block seen lent has same =
    let none : None ≡ Some seen =
    ap held_in (sym lent) ∙ (ap (λ (k : ℕ). held_in (cell_at state.tracker.cells k)) (sym same)
    ∙ has) in
    cc

-- the blocks of two jobs are apart
job-apart : (state : StateView) (old job : JobView) (core : Core) (world : World) (at : ℕ) →
    Follows state.tracker core → JobStands state.ino old core world →
    JobStands state.ino job core world → has_block (states.Out (core_job old)) at ≡ true →
    (job.place ≡ old.place → ⊥) → (block : ℕ) →
    has_block (states.Out (core_job job)) block ≡ true → block ≡ at → ⊥
job-apart state old job core world at follows stand other has apart block own same =
    let mine = lent-to state old core world at follows stand has in
    let theirs = lent-to state job core world block follows other own in
    let both : ◌≡◌ {A = Cell (Seen BlockStep)} (kinds.Lent job.place) (kinds.Lent old.place) =
    sym theirs ∙ (ap (λ (k : ℕ). cell_at state.tracker.cells k) same ∙ mine) in
    apart (let equal : job.place ≡ old.place = cc in equal)

other-stays : (state : StateView) (old new job : JobView) (at : ℕ) (was now : Seen BlockStep)
    (core next : Core) (world after : World) →
    Steps state old new at was now core next world after → Follows state.tracker core →
    JobStands state.ino old core world → (job.place ≡ old.place → ⊥) →
    JobStands state.ino job core world → JobStands state.ino job next after
other-stays state old new job at was now core next world after steps follows stand apart other =
    let same = steps.tracks job.place apart in
    let beside = job-apart state old job core world at follows stand other steps.stepped.has apart
    in
    record {
      ino_is = other.ino_is;
      state = ap (λ (t : Track). t.state) same ∙ other.state;
      span = ap (λ (t : Track). t.span) same ∙ other.span;
      slots = steps.has.slots job.place ∙ other.slots;
      first = held-beside job.first at (Some now) world after steps.has
          (λ t is. beside t.at (first-has job t is)) other.first;
      second = held-beside job.second at (Some now) world after steps.has
          (λ t is. beside t.at (second-has job t is)) other.second;
    }

pub stepped-together : (state : StateView) (old new : JobView) (jobs : List JobView) (at : ℕ)
    (was now : Seen BlockStep) (core next : Core) (world after : World) →
    Steps state old new at was now core next world after →
    Together state (old ∷ jobs) core world → Together state (new ∷ jobs) next after
stepped-together state old new jobs at was now core next world after steps together =
    let stands = together.stands in
    let stand = together.out.0 in
    let is = steps.stepped in
    let lent = lent-to state old core world at stands.follows stand is.has in
    record {
      stands = record {
        follows = steps.follows;
        shows = steps.shows;
        size = steps.has.size ∙ stands.size;
        slots = λ place entry held there kept.
            (let before = stands.slots place entry held there kept in record {
              opened = before.opened;
              here = steps.has.slots place ∙ before.here;
            });
        doubt = λ doubt slots there kept.
            steps.has.slots doubt.place ∙ stands.doubt doubt slots there kept;
        blocks = λ block seen less kept.
            steps.has.others block
            (λ same. kept-apart state core at old.place block seen lent kept same)
            ∙ stands.blocks block seen less kept;
        rest = stands.rest;
      };
      out = (
        record {
          ino_is = is.ino_is ∙ stand.ino_is;
          state = ap (λ (p : ℕ). (track next.tracks p).state) is.place_is ∙ steps.state_is;
          span = ap (λ (p : ℕ). (track next.tracks p).span) is.place_is
              ∙ (steps.span_is ∙ (stand.span ∙ sym is.span_is));
          slots = ap after.slots is.place_is
              ∙ (steps.has.slots old.place ∙ (stand.slots ∙ sym is.slots_are));
          first = is.first_goes world after steps.has stand.first;
          second = is.second_goes world after steps.has stand.second;
        },
        others-go state.ino old.place jobs core next world after
            (λ job apart other.
            other-stays state old new job at was now core next world after steps stands.follows
            stand apart other) together.once.0 together.out.1,
      );
      once = subst (λ (p : ℕ). IsBeside p jobs × AreOnce jobs) (sym is.place_is) together.once;
    }
