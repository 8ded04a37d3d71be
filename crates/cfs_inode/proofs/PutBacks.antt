-- A job is put back.
use Rattle.std.proofs.Common.{◌≡◌, ◌∙◌, ◌+◌, ◌-◌, ◌<◌, ◌≤◌, ap, arith, inl, length, List, [], ◌∷◌}
use Rattle.std.proofs.Common.{Option, Some, refl, sym, true, false, ℕ}
use Rattle.std.specs.Prelude.{option_map}
use Rattle.cfs_core.specs.declared.event.Event.TheVariants as events
use Rattle.cfs_core.specs.declared.event.SizeEnd.TheVariants as sizes
use Rattle.cfs_core.specs.declared.inode_core.Core.{Core}
use Rattle.cfs_core.specs.After.{after, put_back as track_back}
use Rattle.cfs_core.specs.Words.{is_out, track}
use Rattle.cfs_core.proofs.Marks.{track_beside}
use Rattle.cfs_pmem.proofs.AllMomentLemmas.{all_begun}
use Rattle.cfs_job.specs.Views.{JobView}
use Rattle.cfs_medium.specs.Shows.{Recovers, Shows}
use Rattle.cfs_medium.specs.SlotEvents.{IsBesideDoubt}
use Rattle.cfs_medium.specs.World.{MayRemain, Remains, World}
use Rattle.cfs_medium.proofs.LiveLeft.{shown-recovers}
use Rattle.cfs_medium.proofs.QuietEvents.{backs-show}
use Rattle.cfs_tracker.specs.declared.doing.Doing.{Doing}
use Rattle.cfs_tracker.specs.declared.doing.Doing.TheVariants as doings
use Rattle.cfs_tracker.specs.declared.in_doubt.InDoubt.{InDoubt}
use Rattle.cfs_tracker.specs.declared.pending.Pending.{Pending}
use Rattle.cfs_tracker.specs.Finish.{applied_at, applied_in, as_far}
use Rattle.cfs_tracker.specs.Follows.{IsTrack, gate_for, is_dead}
use Rattle.cfs_tracker.specs.View.{doing, entry_at, with_entry}
use Rattle.cfs_tracker.proofs.Behind.{doubt-behind}
use Rattle.cfs_tracker.proofs.Entries.{at-with, here-with}
use Rattle.cfs_tracker.proofs.Finishing.{IsEnding, ending, follows-back}
use Rattle.cfs_tracker.proofs.Putting.{track-of}
use Rattle.cfs_tracker.proofs.Tracks.{in-log}
use Rattle.cfs_inode.specs.Backs.{HasOut, PutsBack, held_back, tile_back, with_put_back}
use Rattle.cfs_inode.specs.Makes.{AnyBetween}
use Rattle.cfs_inode.specs.Stands.{AreHeld, JobStands, Stands, slots_in}
use Rattle.cfs_inode.specs.View.{Held, Seens, StateView}
use Rattle.cfs_inode.proofs.Comings.{returned}
use Rattle.cfs_inode.proofs.Goods.{good}
use Rattle.cfs_inode.proofs.Skips.{doubt-apart}

-- ---- what is known of a change whose job comes back

pub record IsComing (old : StateView) (job : JobView) (core : Core) : Type 0 where
  pub is : IsEnding old.tracker job.place (tile_back job.first) (tile_back job.second)
  pub own : IsTrack is.entry (track core.tracks job.place)
  pub some : job.place ≡ 0 → ⊥
  pub within : job.place - 1 < length core.tracks
  pub gate : gate_for false (applied_at old.tracker job.place)
      ≡ (track core.tracks job.place).gate
  pub beside : IsBesideDoubt core job.place
  pub doubts : (doubt : InDoubt Seens) → old.tracker.doubt ≡ Some doubt →
      doubt.place ≡ job.place → ⊥

pub coming : (old : StateView) (job : JobView) (core : Core) (world : World) → HasOut old job →
    Stands old core world → JobStands old.ino job core world → IsComing old job core
coming old job core world out stands stand =
    let view = old.tracker in
    let is = ending view job.place (tile_back job.first) (tile_back job.second) out.out in
    let own = track-of view core job.place is.entry stands.follows is.there in
    let running : is_out (track core.tracks job.place).state ≡ true = rw stand.state refl in
    let inside = in-log is_out refl core.tracks job.place running in
    let beside : IsBesideDoubt core job.place =
    λ d doubtful same.
    omega (
      arith,
      doubt-behind view core job.place is.entry d stands.follows is.there doubtful,
      same,
    )
    in
    record {
      is = is;
      own = own;
      some = inside.0;
      within = inside.1;
      gate = sym (own.gate
          ∙ ap (λ (now : Doing Held). gate_for (is_dead now) is.entry.applied) is.out
          ∙ ap (λ (o : Option (Pending Held)). gate_for false (applied_in o)) (sym is.there));
      beside = beside;
      doubts = λ doubt has.
          doubt-apart view.doubt core.doubt job.place doubt has stands.follows.doubt beside;
    }

-- the slots of a change that waits again
back-is : (es : List (Pending Held)) (place : ℕ) (change : Pending Held → Pending Held)
    (e entry : Pending Held) (held kept : Held) →
    ((x : Pending Held) → (change x).place ≡ x.place) →
    ((x : Pending Held) → (change x).doing ≡ doings.Waiting held) → entry_at es place ≡ Some e →
    entry_at (with_entry place change es) place ≡ Some entry → slots_in entry.doing ≡ Some kept →
    kept ≡ held
back-is es place change e entry held kept keeps waits was there has =
    let is : entry_at (with_entry place change es) place ≡ Some (change e) =
    here-with es place change keeps
    ∙ ap (λ (o : Option (Pending Held)). option_map change o) was in
    let both : Some entry ≡ Some (change e) = sym there ∙ is in
    let one : entry ≡ change e = cc in
    let now : entry.doing ≡ doings.Waiting held =
    ap (λ (x : Pending Held). x.doing) one ∙ waits e in
    let slots : slots_in entry.doing ≡ Some held = ap (λ (d : Doing Held). slots_in d) now in
    let same : Some kept ≡ Some held = sym has ∙ slots in
    cc

pub waits-again : (old : StateView) (job : JobView) (core : Core) (world : World)
    (change : Pending Held → Pending Held) (slots : Seens) → IsComing old job core →
    ((x : Pending Held) → (change x).place ≡ x.place) →
    ((x : Pending Held) →
    (change x).doing ≡ doings.Waiting (record { place = job.place; slots = slots })) →
    world.slots job.place ≡ slots → (entry : Pending Held) (kept : Held) →
    entry_at (with_entry job.place change old.tracker.entries) job.place ≡ Some entry →
    slots_in entry.doing ≡ Some kept → AreHeld job.place kept world
waits-again old job core world change slots comes keeps waits here entry kept there has =
    let same = back-is old.tracker.entries job.place change comes.is.entry entry
    (record { place = job.place; slots = slots }) kept keeps waits comes.is.there there has in
    record {
      opened = ap (λ (h : Held). h.place) same;
      here = here ∙ ap (λ (h : Held). h.slots) (sym same);
    }

-- ---- it is put back

-- the devices show it
pub back-shows : (old : StateView) (job : JobView) (core : Core) (world : World) →
    HasOut old job → Stands old core world → IsComing old job core →
    let end = as_far old.tracker job.place sizes.AsBefore in
    Shows old.ino (after core (events.Finish job.place end)) world
back-shows old job core world out stands comes =
    let view = old.tracker in
    let applied = applied_at view job.place in
    let did = follows-back view core job.place (held_back job) (tile_back job.first)
    (tile_back job.second) out.out stands.follows in
    backs-show old.ino job.place (gate_for false applied) applied core world stands.shows did.0
    comes.gate

pub back-made : (old : StateView) (job : JobView) → HasOut old job →
    PutsBack old job (with_put_back old.size job old)
back-made old job out asked = λ jobs core world together.
    let stands = together.stands in
    let stand = together.out.0 in
    let view = old.tracker in
    let place = job.place in
    let comes = coming old job core world out stands stand in
    let applied = applied_at view place in
    let t = track core.tracks place in
    let change : Pending Held → Pending Held = doing (doings.Waiting (held_back job)) in
    let did = follows-back view core place (held_back job) (tile_back job.first)
    (tile_back job.second) out.out stands.follows in
    let now : Core = after core (events.Finish place (as_far view place sizes.AsBefore)) in
    let give : (n : ℕ) → length core.log + 2 ≤ n → (remains : Remains) → MayRemain world remains →
    AnyBetween (λ one. Recovers old.ino n one remains) core
    (events.Finish place (as_far view place sizes.AsBefore) ∷ []) =
    λ n bound remains may_be. inl (shown-recovers old.ino n core world
    (good core stands.follows.reached) stands.shows bound remains may_be) in
    record {
      run = (did.0, tt);
      world = world;
      moments = λ n bound. all_begun asked world tt (give n bound.0);
      stands = returned old job jobs old.size (with_put_back old.size job old).tracker core now
          world world
          (record {
            follows = did.1;
            shows = back-shows old job core world out stands comes;
            size_is = stands.size;
            slots_are = λ q apart. refl;
            blocks_are = λ block. refl;
            tracks = λ q apart.
                track_beside core.tracks place q (track_back t (gate_for false applied) applied)
                comes.some apart;
            cells = refl;
            entries = λ q apart. at-with view.entries place q change (λ e. refl) apart;
            here = λ entry kept there has.
                waits-again old job core world change job.slots comes (λ e. refl) (λ e. refl)
                stand.slots entry kept there has;
            doubt = refl;
            beside = comes.doubts;
          }) together;
    }
