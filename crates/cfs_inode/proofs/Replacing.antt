-- The slots at a place come to be other ones, and what the state knows of that place.
use Rattle.std.proofs.Common.{◌≡◌, ◌∙◌, ap, inl, inr, List, [], ◌∷◌, Option, Some, refl, subst, sym}
use Rattle.std.proofs.Common.{true, false, ℕ}
use Rattle.cfs_pmem.specs.Images.{Seen}
use Rattle.cfs_block.specs.BlockImages.{BlockStep}
use Rattle.cfs_core.specs.declared.inode_core.Core.{Core}
use Rattle.cfs_core.specs.declared.state.State.{State}
use Rattle.cfs_core.specs.declared.state.State.TheVariants as states
use Rattle.cfs_core.specs.declared.track.Track.{Track}
use Rattle.cfs_core.specs.Words.{is_out, track}
use Rattle.cfs_core.proofs.Order.{same_or_not}
use Rattle.cfs_job.specs.Steps.{core_job}
use Rattle.cfs_job.specs.Views.{JobView}
use Rattle.cfs_medium.specs.Shows.{Shows}
use Rattle.cfs_medium.specs.World.{World}
use Rattle.cfs_medium.specs.WorldCalls.{with_slots}
use Rattle.cfs_medium.proofs.Worlds.{at_other, at_place}
use Rattle.cfs_tracker.specs.declared.in_doubt.InDoubt.{InDoubt}
use Rattle.cfs_tracker.specs.declared.pending.Pending.{Pending}
use Rattle.cfs_tracker.specs.Cells.{cell_at, held_in}
use Rattle.cfs_tracker.specs.Follows.{Follows}
use Rattle.cfs_tracker.specs.View.{TrackerView, entry_at}
use Rattle.cfs_inode.specs.View.{Held, Seens, StateView}
use Rattle.cfs_inode.specs.Stands.{AllStand, AreHeld, IsAtRest, JobStands, Stands, Together}
use Rattle.cfs_inode.specs.Stands.{slots_in}

-- ---- jobs

pub all-go : (ino : ℕ) (jobs : List JobView) (core now : Core) (world after : World) →
    ((job : JobView) → JobStands ino job core world → JobStands ino job now after) →
    AllStand ino jobs core world → AllStand ino jobs now after
all-go ino [] core now world after go all = tt
all-go ino (job ∷ jobs) core now world after go all =
    (go job all.0, all-go ino jobs core now world after go all.1)

pub job-beside : (ino place : ℕ) (job : JobView) (core now : Core) (world : World)
    (seens : Seens) → (job.place ≡ place → ⊥) →
    track now.tracks job.place ≡ track core.tracks job.place →
    JobStands ino job core world → JobStands ino job now (with_slots place seens world)
job-beside ino place job core now world seens apart same stands = record {
  ino_is = stands.ino_is;
  state = ap (λ (t : Track). t.state) same ∙ stands.state;
  span = ap (λ (t : Track). t.span) same ∙ stands.span;
  slots = at_other job.place place seens (world.slots job.place) apart ∙ stands.slots;
  first = stands.first;
  second = stands.second;
}

-- ---- the state

-- the slots in doubt are those that come, or the same ones as before, elsewhere
pub data DoubtGoes (old : Option (InDoubt Seens)) (place : ℕ) (seens : Seens)
    (doubt : InDoubt Seens) (slots : Seens) : Type 0 where
  comes : doubt.place ≡ place → slots ≡ seens → DoubtGoes old place seens doubt slots
  stays : (doubt.place ≡ place → ⊥) → old ≡ Some doubt → DoubtGoes old place seens doubt slots

-- What is to be shown where slots come to a place that no job has, of the state's tracker, the core
-- and the devices behind that.
pub record Replaces (old : StateView) (tracker : TrackerView Held Seens (Seen BlockStep))
    (place : ℕ) (seens : Seens) (core now : Core) (world : World) : Type 0 where
  pub follows : Follows tracker now
  pub shows : Shows old.ino now (with_slots place seens world)
  pub cells : tracker.cells ≡ old.tracker.cells
  pub free : is_out (track core.tracks place).state ≡ false
  pub tracks : (q : ℕ) → (q ≡ place → ⊥) → track now.tracks q ≡ track core.tracks q
  pub entries : (q : ℕ) → (q ≡ place → ⊥) →
      entry_at tracker.entries q ≡ entry_at old.tracker.entries q
  pub here : (entry : Pending Held) (held : Held) → entry_at tracker.entries place ≡ Some entry →
      slots_in entry.doing ≡ Some held → (held.place ≡ place) × (held.slots ≡ seens)
  pub doubt : (doubt : InDoubt Seens) (slots : Seens) → tracker.doubt ≡ Some doubt →
      doubt.slots ≡ Some slots → DoubtGoes old.tracker.doubt place seens doubt slots

out-not : (s : State) (place : ℕ) (job : JobView) → s ≡ states.Out (core_job job) →
    is_out s ≡ false → ⊥
out-not s place job out none = (let it : is_out s ≡ true = rw out refl in cc)

replaced-slots : (old : StateView) (tracker : TrackerView Held Seens (Seen BlockStep))
    (place : ℕ) (seens : Seens) (core now : Core) (world : World) →
    Replaces old tracker place seens core now world → Stands old core world →
    (q : ℕ) (entry : Pending Held) (held : Held) → entry_at tracker.entries q ≡ Some entry →
    slots_in entry.doing ≡ Some held → AreHeld q held (with_slots place seens world)
replaced-slots old tracker place seens core now world puts stands q entry held there has =
    elim (same_or_not q place) [
      | inl same ↦
          let at : entry_at tracker.entries place ≡ Some entry = rw (sym same) there in
          let is = puts.here entry held at has in
          record {
            opened = is.0 ∙ sym same;
            here = rw same (at_place place seens (world.slots place)) ∙ sym is.1;
          }
      | inr apart ↦
          let was = stands.slots q entry held (sym (puts.entries q apart) ∙ there) has in
          record {
            opened = was.opened;
            here = at_other q place seens (world.slots q) apart ∙ was.here;
          }
    ]

doubt-goes : (old : StateView) (place : ℕ) (seens : Seens) (core : Core) (world : World) →
    Stands old core world → (doubt : InDoubt Seens) (slots : Seens) →
    doubt.slots ≡ Some slots → DoubtGoes old.tracker.doubt place seens doubt slots →
    (with_slots place seens world).slots doubt.place ≡ slots
doubt-goes old place seens core world stands doubt slots has (comes same is) =
    rw same (at_place place seens (world.slots place)) ∙ sym is
doubt-goes old place seens core world stands doubt slots has (stays apart was) =
    at_other doubt.place place seens (world.slots doubt.place) apart
    ∙ stands.doubt doubt slots was has

pub replaced : (old : StateView) (tracker : TrackerView Held Seens (Seen BlockStep))
    (place : ℕ) (seens : Seens) (jobs : List JobView) (core now : Core) (world : World) →
    Replaces old tracker place seens core now world → Together old jobs core world →
    Together (record old { tracker = tracker }) jobs now (with_slots place seens world)
replaced old tracker place seens jobs core now world puts together = record {
  stands = record {
    follows = puts.follows;
    shows = puts.shows;
    size = together.stands.size;
    slots = replaced-slots old tracker place seens core now world puts together.stands;
    doubt = λ doubt slots is has.
        doubt-goes old place seens core world together.stands doubt slots has
        (puts.doubt doubt slots is has);
    blocks = λ block seen less has.
        together.stands.blocks block seen less
        (ap (λ cells. held_in (cell_at cells block)) (sym puts.cells) ∙ has);
    rest = λ block less.
        subst (λ cells. IsAtRest old.ino block (cell_at cells block)) (sym puts.cells)
        (together.stands.rest block less);
  };
  out = all-go old.ino jobs core now world (with_slots place seens world)
      (λ job stands.
      let apart : job.place ≡ place → ⊥ =
      (λ same. out-not (track core.tracks place).state place job
      (ap (λ p. (track core.tracks p).state) (sym same) ∙ stands.state) puts.free) in
      job-beside old.ino place job core now world seens apart (puts.tracks job.place apart) stands)
      together.out;
  once = together.once;
}
