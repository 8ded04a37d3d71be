-- A job ends.
use Rattle.std.proofs.Common.{◌≡◌, ◌∙◌, ◌+◌, ◌<◌, ◌≤◌, ap, arith, inl, length, List, [], ◌∷◌, None}
use Rattle.std.proofs.Common.{Some, Ok, Err, refl, subst, sym, true, false, ℕ, Bool}
use Rattle.cfs_core.specs.declared.event.End.{End}
use Rattle.cfs_core.specs.declared.event.End.TheVariants as ends
use Rattle.cfs_core.specs.declared.event.Event.TheVariants as events
use Rattle.cfs_core.specs.declared.event.SizeEnd.TheVariants as sizes
use Rattle.cfs_core.specs.declared.flag.Flag.TheVariants.{Unsure}
use Rattle.cfs_core.specs.declared.inode_core.Core.{Core}
use Rattle.cfs_core.specs.After.{after, more_to_come, put_back as track_back}
use Rattle.cfs_core.specs.After.{retired as track_retired}
use Rattle.cfs_core.specs.Words.{sized, track}
use Rattle.cfs_core.proofs.Marks.{track_beside}
use Rattle.cfs_pmem.specs.declared.trace.Asked.{Asked}
use Rattle.cfs_pmem.specs.Images.{Seen, WordStep, failed, words_of, wrote}
use Rattle.cfs_pmem.specs.WordOps.{SetsWord}
use Rattle.cfs_pmem.proofs.AllMomentLemmas.{all_after, all_begun, all_weaker}
use Rattle.cfs_job.specs.Steps.{steps_left}
use Rattle.cfs_job.specs.Views.{JobView}
use Rattle.cfs_medium.specs.Shows.{Recovers}
use Rattle.cfs_medium.specs.SizeEvents.{back}
use Rattle.cfs_medium.specs.SlotEvents.{Answer, Leads, sized_end}
use Rattle.cfs_medium.specs.World.{Remains, World}
use Rattle.cfs_medium.specs.WorldCalls.{WorldMoments, with_size, with_slots}
use Rattle.cfs_medium.proofs.FinishEvents.{retires-show}
use Rattle.cfs_medium.proofs.LiveLeft.{shown-recovers}
use Rattle.cfs_medium.proofs.QuietEvents.{quiet-events-show}
use Rattle.cfs_medium.proofs.SizeEvents.{sizes-show}
use Rattle.cfs_medium.proofs.Worlds.{at_other, at_place}
use Rattle.cfs_tracker.specs.declared.doing.Doing.TheVariants as doings
use Rattle.cfs_tracker.specs.declared.pending.Pending.{Pending}
use Rattle.cfs_tracker.specs.Finish.{applied_at, applied_entry, as_far, more_entry, number_of}
use Rattle.cfs_tracker.specs.Finish.{size_after}
use Rattle.cfs_tracker.specs.Follows.{gate_for}
use Rattle.cfs_tracker.specs.View.{doing}
use Rattle.cfs_tracker.proofs.Entries.{at-with, at-without, here-without}
use Rattle.cfs_tracker.proofs.Finishing.{follows-applied, follows-back, follows-more}
use Rattle.cfs_tracker.proofs.Finishing.{follows-retired, follows-unsure, may-size}
use Rattle.cfs_inode.specs.declared.size_answer.SizeAnswer.TheVariants as went
use Rattle.cfs_inode.specs.Backs.{EndMakes, HasOut, held_back, tile_back, with_put_back}
use Rattle.cfs_inode.specs.Finishing.{Closed, FailsAt, Failing, IsAllDone, SizesFor, closing}
use Rattle.cfs_inode.specs.Finishing.{end_at, keeping, with_applied, with_more, with_retired}
use Rattle.cfs_inode.specs.Finishing.{with_unsure, writing}
use Rattle.cfs_inode.specs.Makes.{AnyBetween}
use Rattle.cfs_inode.specs.Stands.{JobStands, Stands}
use Rattle.cfs_inode.specs.View.{Held, Seens, StateView}
use Rattle.cfs_inode.proofs.Comings.{returned}
use Rattle.cfs_inode.proofs.Goods.{good}
use Rattle.cfs_inode.proofs.PutBacks.{IsComing, back-shows, coming, waits-again}
use Rattle.cfs_inode.proofs.Sizings.{IsSized, is-sized, runs-through, unkept-shows, unwritten-shows}
use Rattle.cfs_inode.proofs.Sizings.{wanted-is}

-- what recovers the file before the event is a moment of it
at-start : (ino n : ℕ) (core : Core) (place : ℕ) (end : End) (remains : Remains) →
    Recovers ino n core remains →
    AnyBetween (λ one. Recovers ino n one remains) core (events.Finish place end ∷ [])
at-start ino n core place end remains recovers = inl recovers

-- ---- more blocks are to come

pub more-made : (old : StateView) (job : JobView) (asked : List Asked) → HasOut old job →
    steps_left job ≡ 0 → EndMakes ends.More asked old job asked (with_more job old)
more-made old job asked out none = λ jobs core world together.
    let stands = together.stands in
    let stand = together.out.0 in
    let place = job.place in
    let comes = coming old job core world out stands stand in
    let did = follows-more old.tracker core place (held_back job) (tile_back job.first)
    (tile_back job.second) out.out stands.follows
    (runs-through job core world old.ino stand none) in
    let now : Core = after core (events.Finish place ends.More) in
    let change : Pending Held → Pending Held =
    more_entry (held_back job) (number_of (tile_back job.first)) (number_of (tile_back job.second))
    in
    record {
      run = (did.0, tt);
      world = world;
      moments = λ n bound.
          all_begun asked world tt (λ remains may_be.
          at-start old.ino n core place ends.More remains
          (shown-recovers old.ino n core world (good core stands.follows.reached) stands.shows
          bound.0 remains may_be));
      stands = returned old job jobs old.size (with_more job old).tracker core now world world
          (record {
            follows = did.1;
            shows = quiet-events-show old.ino core (events.Finish place ends.More) world
                stands.shows refl did.0;
            size_is = stands.size;
            slots_are = λ q apart. refl;
            blocks_are = λ block. refl;
            tracks = λ q apart.
                track_beside core.tracks place q (more_to_come (track core.tracks place))
                comes.some apart;
            cells = refl;
            entries = λ q apart. at-with old.tracker.entries place q change (λ e. refl) apart;
            here = λ entry kept there has.
                waits-again old job core world change job.slots comes (λ e. refl) (λ e. refl)
                stand.slots entry kept there has;
            doubt = refl;
            beside = comes.doubts;
          }) together;
    }

-- ---- the size word could not be set

-- at each moment of that call
size-moments : (old : StateView) (job : JobView) (core : Core) (world : World) (obeys : Bool)
    (asked_old asked_new : List Asked) (size : Seen WordStep) → HasOut old job →
    Stands old core world → IsComing old job core → 0 < length (words_of old.size) →
    SetsWord {T = Unit {0}} {E = Unit {0}} obeys 0 (size_after old.tracker job.place) (Err tt)
    asked_old old.size asked_new size →
    (n : ℕ) → length core.log + 2 ≤ n →
    WorldMoments (Recovers old.ino n core) asked_old world asked_new (with_size size world)
size-moments old job core world obeys asked_old asked_new size out stands comes some sets n bound =
    let applied = applied_at old.tracker job.place in
    let gate = gate_for false applied in
    let did = follows-unsure old.tracker core job.place (held_back job) (tile_back job.first)
    (tile_back job.second) out.out stands.follows in
    (sizes-show old.ino n job.place gate applied core world size obeys (Err tt) asked_old asked_new
    (good (back core job.place gate applied sizes.Either) did.1.reached) stands.shows did.0
    comes.gate bound
    (subst (λ (s : Seen WordStep). 0 < length (words_of s)) (sym stands.size) some)
    (subst (λ (w : ℕ). SetsWord {T = Unit {0}} {E = Unit {0}} obeys 0 w (Err tt) asked_old
    world.size asked_new size) (wanted-is old job core world stands comes)
    (subst (λ (s : Seen WordStep). SetsWord {T = Unit {0}} {E = Unit {0}} obeys 0
    (size_after old.tracker job.place) (Err tt) asked_old s asked_new size)
    (sym stands.size) sets))).moments

unwritten-made : (old : StateView) (job : JobView) (obeys : Bool)
    (asked_old asked_new : List Asked) (size : Seen WordStep) → HasOut old job →
    0 < length (words_of old.size) →
    SizesFor obeys old job.place went.Unwritten asked_old asked_new size →
    EndMakes (end_at writing old job) asked_old old job asked_new (with_put_back size job old)
unwritten-made old job obeys asked_old asked_new size out some sets = λ jobs core world together.
    let stands = together.stands in
    let stand = together.out.0 in
    let place = job.place in
    let applied = applied_at old.tracker place in
    let comes = coming old job core world out stands stand in
    let did = follows-back old.tracker core place (held_back job) (tile_back job.first)
    (tile_back job.second) out.out stands.follows in
    let end = as_far old.tracker place sizes.AsBefore in
    let now : Core = after core (events.Finish place end) in
    let change : Pending Held → Pending Held = doing (doings.Waiting (held_back job)) in
    record {
      run = (did.0, tt);
      world = with_size size world;
      moments = λ n bound.
          all_weaker (at-start old.ino n core place end)
          (size-moments old job core world obeys asked_old asked_new size out stands comes some
          sets.0 n bound.0);
      stands = returned old job jobs size (with_put_back size job old).tracker core now world
          (with_size size world)
          (record {
            follows = did.1;
            shows = unwritten-shows old.ino now world size
                (back-shows old job core world out stands comes)
                (sets.1 ∙ ap (λ (s : Seen WordStep). failed s) (sym stands.size));
            size_is = refl;
            slots_are = λ q apart. refl;
            blocks_are = λ block. refl;
            tracks = λ q apart.
                track_beside core.tracks place q
                (track_back (track core.tracks place) (gate_for false applied) applied)
                comes.some apart;
            cells = refl;
            entries = λ q apart. at-with old.tracker.entries place q change (λ e. refl) apart;
            here = λ entry kept there has.
                waits-again old job core (with_size size world) change job.slots comes (λ e. refl)
                (λ e. refl) stand.slots entry kept there has;
            doubt = refl;
            beside = comes.doubts;
          }) together;
    }

unkept-made : (old : StateView) (job : JobView) (obeys : Bool)
    (asked_old asked_new : List Asked) (size : Seen WordStep) → HasOut old job →
    0 < length (words_of old.size) →
    SizesFor obeys old job.place went.Unkept asked_old asked_new size →
    EndMakes (end_at keeping old job) asked_old old job asked_new (with_unsure size job old)
unkept-made old job obeys asked_old asked_new size out some sets = λ jobs core world together.
    let stands = together.stands in
    let stand = together.out.0 in
    let place = job.place in
    let applied = applied_at old.tracker place in
    let comes = coming old job core world out stands stand in
    let did = follows-unsure old.tracker core place (held_back job) (tile_back job.first)
    (tile_back job.second) out.out stands.follows in
    let end = as_far old.tracker place sizes.Either in
    let now : Core = after core (events.Finish place end) in
    let before : Core =
    after core (events.Finish place (as_far old.tracker place sizes.AsBefore)) in
    let wanted = sized core.size (track core.tracks place).span in
    let right : size_after old.tracker place ≡ wanted = wanted-is old job core world stands comes in
    let word : SetsWord {T = Unit {0}} {E = Unit {0}} obeys 0 wanted (Err tt) asked_old world.size
    asked_new size =
    subst (λ (w : ℕ). SetsWord {T = Unit {0}} {E = Unit {0}} obeys 0 w (Err tt) asked_old
    world.size asked_new size) right
    (subst (λ (s : Seen WordStep). SetsWord {T = Unit {0}} {E = Unit {0}} obeys 0
    (size_after old.tracker place) (Err tt) asked_old s asked_new size) (sym stands.size) sets.0) in
    let change : Pending Held → Pending Held = doing (doings.Waiting (held_back job)) in
    record {
      run = (did.0, tt);
      world = with_size size world;
      moments = λ n bound.
          all_weaker (at-start old.ino n core place end)
          (size-moments old job core world obeys asked_old asked_new size out stands comes some
          sets.0 n bound.0);
      stands = returned old job jobs size (with_unsure size job old).tracker core now world
          (with_size size world)
          (record {
            follows = did.1;
            shows = unkept-shows old.ino before world size wanted obeys (Err tt) asked_old asked_new
                (back-shows old job core world out stands comes)
                (subst (λ (s : Seen WordStep). 0 < length (words_of s)) (sym stands.size) some)
                word
                (sets.1
                ∙ (ap (λ (w : ℕ). failed (wrote 0 w old.size)) right
                ∙ ap (λ (s : Seen WordStep). failed (wrote 0 wanted s)) (sym stands.size)));
            size_is = refl;
            slots_are = λ q apart. refl;
            blocks_are = λ block. refl;
            tracks = λ q apart.
                track_beside core.tracks place q
                (track_back (track core.tracks place) (gate_for false applied) applied)
                comes.some apart;
            cells = refl;
            entries = λ q apart. at-with old.tracker.entries place q change (λ e. refl) apart;
            here = λ entry kept there has.
                waits-again old job core (with_size size world) change job.slots comes (λ e. refl)
                (λ e. refl) stand.slots entry kept there has;
            doubt = refl;
            beside = comes.doubts;
          }) together;
    }

-- ---- the gate

-- the gate of a change is closed whose size word is set, or that failed
gate-leads : (old : StateView) (job : JobView) (core : Core) (world : World) (obeys : Bool)
    (answer : Answer) (asked_old asked_new : List Asked) (size : Seen WordStep) (slots : Seens) →
    HasOut old job → IsAllDone old job → Stands old core world → JobStands old.ino job core world →
    IsComing old job core →
    (closed : Closed obeys answer asked_old old job size asked_new slots) →
    IsSized old job core world asked_old closed.asked size →
    (n : ℕ) → length core.log + 2 ≤ n →
    Leads old.ino n job.place (after core (events.Finish job.place (sized_end Unsure)))
    (after core (events.Finish job.place ends.Retired))
    (after core (events.Finish job.place (sized_end Unsure))) (with_size size world)
    closed.closes.now closed.closes.tails answer closed.asked asked_new
gate-leads old job core world obeys answer asked_old asked_new size slots out all stands stand comes
    closed is n bound =
    let place = job.place in
    let through = runs-through job core world old.ino stand all.none_left in
    let did = follows-applied old.tracker core place (held_back job) (tile_back job.first)
    (tile_back job.second) out.out all.last stands.follows through in
    retires-show old.ino n place (track core.tracks place).gate core (with_size size world)
    closed.closes.head closed.closes.now closed.closes.tails obeys answer closed.asked asked_new
    (good (after core (events.Finish place (sized_end Unsure))) did.1.reached) is.shows
    (may-size old.tracker core place (tile_back job.first) (tile_back job.second) out.out all.last
    stands.follows through)
    comes.beside bound (stand.slots ∙ closed.closes.old_is) closed.closes.sets

pub retired-made : (old : StateView) (job : JobView) (obeys : Bool)
    (asked_old asked_new : List Asked) (size : Seen WordStep) (slots : Seens) → HasOut old job →
    0 < length (words_of old.size) → IsAllDone old job →
    Closed obeys (Ok tt) asked_old old job size asked_new slots →
    EndMakes ends.Retired asked_old old job asked_new (with_retired size job old)
retired-made old job obeys asked_old asked_new size slots out some all closed =
    λ jobs core world together.
    let stands = together.stands in
    let stand = together.out.0 in
    let place = job.place in
    let comes = coming old job core world out stands stand in
    let through = runs-through job core world old.ino stand all.none_left in
    let did = follows-retired old.tracker core place (tile_back job.first) (tile_back job.second)
    out.out all.last stands.follows through in
    let now : Core = after core (events.Finish place ends.Retired) in
    let seens : Seens = closed.closes.now ∷ closed.closes.tails in
    let is = is-sized old job core world obeys asked_old closed.asked size out all.last
    all.none_left stands stand comes some closed.sized in
    let leads = gate-leads old job core world obeys (Ok tt) asked_old asked_new size slots out all
    stands stand comes closed is in
    record {
      run = (did.0, tt);
      world = with_slots place seens (with_size size world);
      moments = λ n bound.
          all_weaker (at-start old.ino n core place ends.Retired)
          (all_after (is.moments n bound.0) (leads n bound.0).moments);
      stands = returned old job jobs size (with_retired size job old).tracker core now world
          (with_slots place seens (with_size size world))
          (record {
            follows = did.1;
            shows = (leads (length core.log + 2) (omega arith)).ok;
            size_is = refl;
            slots_are = λ q apart. at_other q place seens (world.slots q) apart;
            blocks_are = λ block. refl;
            tracks = λ q apart.
                track_beside core.tracks place q (track_retired (track core.tracks place))
                comes.some apart;
            cells = refl;
            entries = λ q apart. at-without old.tracker.entries place q apart;
            here = λ entry kept there has.
                (let none : None ≡ Some entry =
                sym (here-without old.tracker.entries place) ∙ there in cc);
            doubt = refl;
            beside = comes.doubts;
          }) together;
    }

unclosed-made : (old : StateView) (job : JobView) (obeys : Bool)
    (asked_old asked_new : List Asked) (size : Seen WordStep) (slots : Seens) → HasOut old job →
    0 < length (words_of old.size) → IsAllDone old job →
    Closed obeys (Err tt) asked_old old job size asked_new slots →
    EndMakes (end_at closing old job) asked_old old job asked_new
    (with_applied size slots job old)
unclosed-made old job obeys asked_old asked_new size slots out some all closed =
    λ jobs core world together.
    let stands = together.stands in
    let stand = together.out.0 in
    let place = job.place in
    let comes = coming old job core world out stands stand in
    let through = runs-through job core world old.ino stand all.none_left in
    let held : Held = record { place = place; slots = slots } in
    let did = follows-applied old.tracker core place held (tile_back job.first)
    (tile_back job.second) out.out all.last stands.follows through in
    let end = sized_end Unsure in
    let now : Core = after core (events.Finish place end) in
    let seens : Seens = closed.closes.now ∷ closed.closes.tails in
    let after_ : World = with_slots place seens (with_size size world) in
    let is = is-sized old job core world obeys asked_old closed.asked size out all.last
    all.none_left stands stand comes some closed.sized in
    let leads = gate-leads old job core world obeys (Err tt) asked_old asked_new size slots out all
    stands stand comes closed is in
    record {
      run = (did.0, tt);
      world = after_;
      moments = λ n bound.
          all_weaker (at-start old.ino n core place end)
          (all_after (is.moments n bound.0) (leads n bound.0).moments);
      stands = returned old job jobs size (with_applied size slots job old).tracker core now world
          after_
          (record {
            follows = did.1;
            shows = (leads (length core.log + 2) (omega arith)).err;
            size_is = refl;
            slots_are = λ q apart. at_other q place seens (world.slots q) apart;
            blocks_are = λ block. refl;
            tracks = λ q apart.
                track_beside core.tracks place q (track_back (track core.tracks place) Unsure true)
                comes.some apart;
            cells = refl;
            entries = λ q apart.
                at-with old.tracker.entries place q (applied_entry held) (λ e. refl) apart;
            here = λ entry kept there has.
                waits-again old job core after_ (applied_entry held) slots comes (λ e. refl)
                (λ e. refl)
                (at_place place seens (world.slots place) ∙ sym closed.closes.new_is) entry kept
                there has;
            doubt = refl;
            beside = comes.doubts;
          }) together;
    }

-- ---- one that failed

pub fails-made : (old new : StateView) (job : JobView) (obeys : Bool)
    (asked_old asked_new : List Asked) → HasOut old job → 0 < length (words_of old.size) →
    (at : Failing) → IsAllDone old job → FailsAt obeys at asked_old old job asked_new new →
    EndMakes (end_at at old job) asked_old old job asked_new new
fails-made old new job obeys asked_old asked_new out some writing all did =
    subst (λ (s : StateView). EndMakes (end_at writing old job) asked_old old job asked_new s)
    (sym did.2) (unwritten-made old job obeys asked_old asked_new did.0 out some did.1)
fails-made old new job obeys asked_old asked_new out some keeping all did =
    subst (λ (s : StateView). EndMakes (end_at keeping old job) asked_old old job asked_new s)
    (sym did.2) (unkept-made old job obeys asked_old asked_new did.0 out some did.1)
fails-made old new job obeys asked_old asked_new out some closing all did =
    subst (λ (s : StateView). EndMakes (end_at closing old job) asked_old old job asked_new s)
    (sym did.3) (unclosed-made old job obeys asked_old asked_new did.0 did.1 out some all did.2)
