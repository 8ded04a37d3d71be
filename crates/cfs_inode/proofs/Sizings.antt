-- The size word is set for a change whose job is through.
use Rattle.std.proofs.Common.{◌≡◌, ◌∙◌, ◌+◌, ◌&&◌, ◌||◌, ◌<◌, ◌≤◌, ◌==◌, ap, arith, get_or, inl}
use Rattle.std.proofs.Common.{inr, length, List, [], ◌∷◌, ◌++◌, not, Option, None, Some, Ok, refl}
use Rattle.std.proofs.Common.{subst, sym, true, false, ℕ, Bool}
use Rattle.std.proofs.lemmas.Bool.Decides.{nat_tests}
use Rattle.cfs_core.specs.declared.event.End.TheVariants as ends
use Rattle.cfs_core.specs.declared.event.Event.TheVariants as events
use Rattle.cfs_core.specs.declared.event.SizeEnd.TheVariants as sizes
use Rattle.cfs_core.specs.declared.inode_core.Core.{Core}
use Rattle.cfs_core.specs.declared.state.State.TheVariants as states
use Rattle.cfs_core.specs.After.{after, put_back as track_back, with_track}
use Rattle.cfs_core.specs.May.{ends_well, is_in_phase, is_size_set, keeps_gate, may, may_finish}
use Rattle.cfs_core.specs.May.{stands_at}
use Rattle.cfs_core.specs.Medium.{is_size}
use Rattle.cfs_core.specs.Words.{is_done, is_out, is_through, sized, track}
use Rattle.cfs_core.proofs.Legal.{both}
use Rattle.cfs_pmem.specs.declared.trace.Asked.{Asked}
use Rattle.cfs_pmem.specs.Images.{Seen, WordStep, IsImage, IsSetFrom, failed, words_of, wrote}
use Rattle.cfs_pmem.specs.WordOps.{SetsWord}
use Rattle.cfs_pmem.proofs.AllMomentLemmas.{all_begun}
use Rattle.cfs_pmem.proofs.ImageLemmas.{all_failed}
use Rattle.cfs_pmem.proofs.MomentLemmas.{at_end}
use Rattle.cfs_job.specs.Steps.{core_job, is_unflushed, is_unwritten, lease_in, one_if, steps_left}
use Rattle.cfs_job.specs.Views.{JobView, TileView}
use Rattle.cfs_medium.specs.Shows.{Recovers, Shows}
use Rattle.cfs_medium.specs.SizeEvents.{back}
use Rattle.cfs_medium.specs.SlotEvents.{Answer, sized_end}
use Rattle.cfs_medium.specs.World.{World}
use Rattle.cfs_medium.specs.WorldCalls.{WorldMoments, with_size}
use Rattle.cfs_medium.proofs.LiveLeft.{shown-recovers}
use Rattle.cfs_medium.proofs.QuietEvents.{backs-show}
use Rattle.cfs_medium.proofs.SizeEvents.{first_set, new_is_a_size, sizes-show, still_a_size}
use Rattle.cfs_medium.proofs.SizeSteps.{size_shows}
use Rattle.cfs_medium.proofs.SlotEvents.{holding-same}
use Rattle.cfs_tracker.specs.declared.pending.Pending.{Pending}
use Rattle.cfs_tracker.specs.Finish.{applied_at, is_last, size_after, span_in}
use Rattle.cfs_tracker.specs.Follows.{gate_for}
use Rattle.cfs_tracker.specs.View.{entry_at}
use Rattle.cfs_tracker.proofs.Finishing.{follows-unsure, may-size}
use Rattle.cfs_inode.specs.declared.size_answer.SizeAnswer.{SizeAnswer}
use Rattle.cfs_inode.specs.declared.size_answer.SizeAnswer.TheVariants as went
use Rattle.cfs_inode.specs.Backs.{HasOut, held_back, tile_back}
use Rattle.cfs_inode.specs.Finishing.{SetsSize, SizesFor, is_right}
use Rattle.cfs_inode.specs.Stands.{JobStands, Stands}
use Rattle.cfs_inode.specs.View.{Held, StateView}
use Rattle.cfs_inode.proofs.Goods.{good}
use Rattle.cfs_inode.proofs.PutBacks.{IsComing}

-- ---- a job without steps left is through

no-step : (b : Bool) → one_if (not b) ≡ 0 → b ≡ true
no-step true h = refl
no-step false h = cc

done-of : (tile : Option TileView) → one_if (is_unwritten tile) ≡ 0 →
    one_if (is_unflushed tile) ≡ 0 → is_done (lease_in tile) ≡ true
done-of None written flushed = refl
done-of (Some tile) written flushed =
    rw (no-step tile.written written, no-step tile.flushed flushed) refl

pub through-of : (job : JobView) → steps_left job ≡ 0 →
    is_through (states.Out (core_job job)) ≡ true
through-of job none =
    let first = done-of job.first (omega (arith, none)) (omega (arith, none)) in
    let second = done-of job.second (omega (arith, none)) (omega (arith, none)) in
    rw (first, second) refl

pub runs-through : (job : JobView) (core : Core) (world : World) (ino : ℕ) →
    JobStands ino job core world → steps_left job ≡ 0 →
    is_through (track core.tracks job.place).state ≡ true
runs-through job core world ino stand none = rw stand.state (through-of job none)

-- ---- what the size is to be

pub wanted-is : (old : StateView) (job : JobView) (core : Core) (world : World) →
    Stands old core world → IsComing old job core →
    size_after old.tracker job.place ≡ sized core.size (track core.tracks job.place).span
wanted-is old job core world stands comes =
    ap (λ n. sized n (span_in (entry_at old.tracker.entries job.place))) (sym stands.follows.size)
    ∙ (ap (λ (o : Option (Pending Held)). sized core.size (span_in o)) comes.is.there
    ∙ ap (λ s. sized core.size s) (sym comes.own.span))

-- ---- the write failed

pub unwritten-shows : (ino : ℕ) (core : Core) (world : World) (new : Seen WordStep) →
    Shows ino core world → new ≡ failed world.size → Shows ino core (with_size new world)
unwritten-shows ino core world new shows is =
    size_shows ino core core world new shows
    (record { tags = refl; loose = refl; bytes = refl; held = λ at. refl }) shows.shape
    (all_failed (λ words. is_size core (get_or words 0 0) ≡ true) world.size is shows.sizes)
    (ap (λ (s : Seen WordStep). get_or (words_of s) 0 0) is ∙ shows.size_now)

-- ---- the persist failed

-- the core that knows the old size and the new one
abbrev either : Core → ℕ → Core
either core size = record core { size = size; sizes = core.sizes ++ core.size ∷ [] }

set-fits : (core : Core) (world : World) (size : ℕ) (words : List ℕ) →
    0 < length (words_of world.size) →
    ((image : List ℕ) → IsImage world.size.history image →
    is_size core (get_or image 0 0) ≡ true) → IsSetFrom world.size 0 size words →
    is_size (either core size) (get_or words 0 0) ≡ true
set-fits core world size words some fits set_ = elim set_.same [
  | inl same ↦
      rw same (still_a_size core size (get_or set_.first 0 0) (fits set_.first set_.possible))
  | inr done ↦
      let long : 0 < length set_.first = omega (arith, some, set_.possible.size) in
      let is : get_or words 0 0 ≡ size =
      ap (λ (ws : List ℕ). get_or ws 0 0) done ∙ first_set set_.first size long in
      rw is (new_is_a_size size (core.sizes ++ core.size ∷ []))
]

pub unkept-shows : (ino : ℕ) (core : Core) (world : World) (new : Seen WordStep) (size : ℕ)
    (obeys : Bool) (result : Answer) (asked_old asked_new : List Asked) →
    Shows ino core world → 0 < length (words_of world.size) →
    SetsWord obeys 0 size result asked_old world.size asked_new new →
    new ≡ failed (wrote 0 size world.size) → Shows ino (either core size) (with_size new world)
unkept-shows ino core world new size obeys result asked_old asked_new shows some sets is =
    size_shows ino core (either core size) world new shows
    (record {
      tags = refl;
      loose = refl;
      bytes = refl;
      held = λ at. holding-same core (either core size) core.doubt at refl;
    })
    (record {
      tags = shows.shape.tags;
      tracks = shows.shape.tracks;
      doubt = λ d has.
          let fits = shows.shape.doubt d has in
          record { from = fits.from; to = fits.to; apart = fits.apart };
      loose = shows.shape.loose;
    })
    (λ words image. set-fits core world size words some shows.sizes
    (at_end sets.moments words image))
    (ap (λ (s : Seen WordStep). get_or (words_of s) 0 0) is
    ∙ first_set (words_of world.size) size some)

-- ---- it is set

-- what the devices of a state show once its size word is set
pub record IsSized (old : StateView) (job : JobView) (core : Core) (world : World)
    (asked_old asked_new : List Asked) (size : Seen WordStep) : Type 0 where
  pub shows : Shows old.ino
      (after core (events.Finish job.place (sized_end (track core.tracks job.place).gate)))
      (with_size size world)
  pub moments : (n : ℕ) → length core.log + 2 ≤ n →
      WorldMoments (Recovers old.ino n core) asked_old world asked_new (with_size size world)

right-parts : (stored wanted : ℕ) (is_sure : Bool) → is_right stored is_sure wanted ≡ true →
    (is_sure ≡ true) × (stored ≡ wanted)
right-parts stored wanted true h =
    (let same : (stored == wanted) ≡ true = h in (refl, grind (arith, nat_tests)))
right-parts stored wanted false h = cc

or-true : (a b : Bool) → b ≡ true → (a || b) ≡ true
or-true true b h = refl
or-true false b h = h

-- a job that did all may come back applied where the size word was right before
may-back : (core : Core) (place : ℕ) →
    may core (events.Finish place (sized_end (track core.tracks place).gate)) ≡ true →
    core.size ≡ sized core.size (track core.tracks place).span → core.sizes ≡ [] →
    may core (events.Finish place (ends.Back sizes.AsBefore (track core.tracks place).gate true))
    ≡ true
may-back core place allowed right sure =
    let t = track core.tracks place in
    let end = sized_end t.gate in
    let phase =
    both (is_in_phase core.crashed (events.Finish place end)) (may_finish core place end)
    allowed in
    let out = both (is_out t.state) (ends_well core place end) phase.1 in
    let gate = both (keeps_gate t.gate t.gate)
    (stands_at core place && (t.applied || is_size_set core t.span sizes.Set)) out.1 in
    let bytes =
    both (stands_at core place) (t.applied || is_size_set core t.span sizes.Set) gate.1 in
    let same : (core.size == sized core.size t.span) ≡ true = grind (arith, nat_tests) in
    let size : is_size_set core t.span sizes.AsBefore ≡ true = rw (same, sure) refl in
    rw (
      phase.0,
      out.0,
      gate.0,
      bytes.0,
      or-true t.applied
          (is_size_set core t.span sizes.AsBefore) size,
    ) refl

right-shows : (old : StateView) (job : JobView) (core : Core) (world : World) →
    Shows old.ino core world →
    may core (events.Finish job.place (sized_end (track core.tracks job.place).gate)) ≡ true →
    core.size ≡ sized core.size (track core.tracks job.place).span → core.sizes ≡ [] →
    Shows old.ino
    (after core (events.Finish job.place (sized_end (track core.tracks job.place).gate))) world
right-shows old job core world shows allowed right sure =
    let t = track core.tracks job.place in
    let one : Core = with_track core job.place (track_back t t.gate true) in
    let same : after core (events.Finish job.place (ends.Back sizes.AsBefore t.gate true))
    ≡ after core (events.Finish job.place (sized_end t.gate)) =
    ap (λ (n : ℕ). record one { size = n; sizes = core.sizes }) right
    ∙ ap (λ (ns : List ℕ). record one { size = sized core.size t.span; sizes = ns }) sure in
    subst (λ c. Shows old.ino c world) same
    (backs-show old.ino job.place t.gate true core world shows
    (may-back core job.place allowed right sure) refl)

right-sized : (old : StateView) (job : JobView) (core : Core) (world : World)
    (asked : List Asked) → Stands old core world →
    may core (events.Finish job.place (sized_end (track core.tracks job.place).gate)) ≡ true →
    core.size ≡ sized core.size (track core.tracks job.place).span → core.sizes ≡ [] →
    IsSized old job core world asked asked world.size
right-sized old job core world asked stands allowed right sure = record {
  shows = right-shows old job core world stands.shows allowed right sure;
  moments = λ n bound.
      all_begun asked world tt
      (shown-recovers old.ino n core world (good core stands.follows.reached) stands.shows bound);
}

set-sized : (old : StateView) (job : JobView) (core : Core) (world : World) (obeys : Bool)
    (asked_old asked_new : List Asked) (size : Seen WordStep) → HasOut old job →
    Stands old core world → IsComing old job core → 0 < length (words_of world.size) →
    SetsWord {T = Unit {0}} {E = Unit {0}} obeys 0
    (sized core.size (track core.tracks job.place).span) (Ok tt) asked_old world.size asked_new
    size →
    IsSized old job core world asked_old asked_new size
set-sized old job core world obeys asked_old asked_new size out stands comes some sets =
    let applied = applied_at old.tracker job.place in
    let gate = gate_for false applied in
    let did = follows-unsure old.tracker core job.place (held_back job) (tile_back job.first)
    (tile_back job.second) out.out stands.follows in
    let law = (λ (n : ℕ) (bound : length core.log + 2 ≤ n).
    sizes-show old.ino n job.place gate applied core world size obeys (Ok tt) asked_old asked_new
    (good (back core job.place gate applied sizes.Either) did.1.reached) stands.shows did.0
    comes.gate bound some sets) in
    record {
      shows = subst (λ g. Shows old.ino (after core (events.Finish job.place (sized_end g)))
          (with_size size world)) comes.gate
          (law (length core.log + 2) (omega arith)).ok;
      moments = λ n bound. (law n bound).moments;
    }

sized-by : (old : StateView) (job : JobView) (core : Core) (world : World) (obeys : Bool)
    (asked_old asked_new : List Asked) (size : Seen WordStep) (wanted : ℕ) (right : Bool) →
    HasOut old job → Stands old core world → IsComing old job core →
    0 < length (words_of old.size) →
    may core (events.Finish job.place (sized_end (track core.tracks job.place).gate)) ≡ true →
    wanted ≡ sized core.size (track core.tracks job.place).span →
    is_right old.tracker.stored old.tracker.is_sure wanted ≡ right →
    SetsSize obeys right wanted went.Set asked_old old.size asked_new size →
    IsSized old job core world asked_old asked_new size
sized-by old job core world obeys asked_old asked_new size wanted true out stands comes some allowed
    is right sets =
    let parts = right-parts old.tracker.stored wanted old.tracker.is_sure right in
    let same : core.size ≡ sized core.size (track core.tracks job.place).span =
    stands.follows.size ∙ (parts.1 ∙ is) in
    let now : size ≡ world.size = sets.1 ∙ sym stands.size in
    subst (λ (a : List Asked). IsSized old job core world asked_old a size) (sym sets.0)
    (subst (λ (s : Seen WordStep). IsSized old job core world asked_old asked_old s) (sym now)
    (right-sized old job core world asked_old stands allowed same (stands.follows.sure parts.0)))
sized-by old job core world obeys asked_old asked_new size wanted false out stands comes some
    allowed
    is right sets =
    set-sized old job core world obeys asked_old asked_new size out stands comes
    (subst (λ (s : Seen WordStep). 0 < length (words_of s)) (sym stands.size) some)
    (subst (λ (n : ℕ). SetsWord {T = Unit {0}} {E = Unit {0}} obeys 0 n (Ok tt) asked_old
    world.size asked_new size) is
    (subst (λ (s : Seen WordStep). SetsWord {T = Unit {0}} {E = Unit {0}} obeys 0 wanted (Ok tt)
    asked_old s asked_new size) (sym stands.size) sets))

pub is-sized : (old : StateView) (job : JobView) (core : Core) (world : World) (obeys : Bool)
    (asked_old asked_new : List Asked) (size : Seen WordStep) → HasOut old job →
    is_last old.tracker job.place ≡ true → steps_left job ≡ 0 → Stands old core world →
    JobStands old.ino job core world → IsComing old job core → 0 < length (words_of old.size) →
    SizesFor obeys old job.place went.Set asked_old asked_new size →
    IsSized old job core world asked_old asked_new size
is-sized old job core world obeys asked_old asked_new size out last none stands stand comes some
    sets =
    let wanted = size_after old.tracker job.place in
    sized-by old job core world obeys asked_old asked_new size wanted
    (is_right old.tracker.stored old.tracker.is_sure wanted) out stands comes some
    (may-size old.tracker core job.place (tile_back job.first) (tile_back job.second) out.out last
    stands.follows (runs-through job core world old.ino stand none))
    (wanted-is old job core world stands comes) refl sets

-- ---- what a call set it to

pub sizes-are : (obeys right is_sure : Bool) (stored wanted own : ℕ) (answer : SizeAnswer)
    (asked_old asked_new : List Asked) (old new : Seen WordStep) →
    right ≡ is_right stored is_sure wanted → wanted ≡ own →
    SetsSize obeys right wanted answer asked_old old asked_new new →
    SetsSize obeys (is_right stored is_sure own) own answer asked_old old asked_new new
sizes-are obeys right is_sure stored wanted own answer asked_old asked_new old new is same sets =
    subst (λ (n : ℕ). SetsSize obeys (is_right stored is_sure n) n answer asked_old old asked_new
    new) same
    (subst (λ (b : Bool). SetsSize obeys b wanted answer asked_old old asked_new new) is sets)

pub none-left : (n : ℕ) → n ≤ 0 → n ≡ 0
none-left n h = omega (arith, h)
