-- A job that did all ends: the gate of its request is closed.
use Rattle.std.proofs.Common.{◌≡◌, ◌≢◌, inl, inr, ℕ, ◌+◌, ◌-◌, ◌≤◌, Bool, true, false, Ok, Err, OnOk, OnErr, Some, List, [], ◌∷◌, length, arith, refl, sym, ap, subst, ◌∙◌}
use Rattle.std.proofs.Math.ListN.{set}
use Rattle.std.proofs.lemmas.List.{length-set, set-set}
use Rattle.cfs_core.specs.declared.doubt.Doubt.{Doubt}
use Rattle.cfs_core.specs.declared.event.End.TheVariants as ends
use Rattle.cfs_core.specs.declared.event.Event.TheVariants as events
use Rattle.cfs_core.specs.declared.event.SizeEnd.TheVariants as sizes
use Rattle.cfs_core.specs.declared.flag.Flag.{Flag}
use Rattle.cfs_core.specs.declared.flag.Flag.TheVariants.{Off, On, Unsure}
use Rattle.cfs_core.specs.declared.inode_core.Core.{Core}
use Rattle.cfs_core.specs.declared.track.Track.{Track}
use Rattle.cfs_core.specs.After.{after, put_back, retired, with_track}
use Rattle.cfs_core.specs.May.{ends_well, is_in_phase, may_finish}
use Rattle.cfs_core.specs.Words.{can_be, is_out, sized, track}
use Rattle.cfs_core.proofs.Legal.{both}
use Rattle.cfs_core.proofs.Order.{some_place}
use Rattle.cfs_pmem.specs.Images.{Seen, WordStep, IsImage, IsSetFrom}
use Rattle.cfs_pmem.specs.Objects.{IsEachImage}
use Rattle.cfs_pmem.specs.WordOps.{SetsWord}
use Rattle.cfs_slot.specs.Words.{gate_of}
use Rattle.cfs_medium.specs.Differs.{DiffersAt}
use Rattle.cfs_medium.specs.Shows.{HasShape, Holding, Recovers, Shows, SlotFits, holding, is_gated, logged_at}
use Rattle.cfs_medium.specs.SlotEvents.{Answer, RetiresShow, sized_end}
use Rattle.cfs_medium.specs.World.{World, head_words}
use Rattle.cfs_medium.specs.WorldCalls.{WorldMoments, with_slots}
use Rattle.cfs_medium.proofs.SlotEvents.{closed-fits, closed-shows, closed-shut, holding-logged, track-differs, track-here, track-shape, within_place}
use Rattle.cfs_medium.proofs.SlotSteps.{heads-set}

-- a gate that may be open or closed
unsure-fits : (ino place : ℕ) (held now : Holding) (slots : List (List ℕ)) → SlotFits ino place held slots →
    now.gate ≡ Unsure → now.mark ≡ held.mark → now.request ≡ held.request → SlotFits ino place now slots
unsure-fits ino place held now slots fits gate mark request = record {
  gate = rw gate refl;
  number = fits.number;
  mark = λ gated. rw mark (fits.mark gated);
  file = fits.file;
  request = λ gated. request ∙ fits.request gated;
}

-- another track at a place in place of one
again : (core : Core) (place : ℕ) (one other : Track) →
    with_track (with_track core place one) place other ≡ with_track core place other
again core place one other =
    ap (λ (ts : List Track). record core { tracks = ts }) (set-set core.tracks (place - 1) one other)

pub retires-show : RetiresShow
retires-show ino n place gate core world head new tails obeys result asked_old asked_new good shows allowed beside room here sets = record {
  moments = all.0;
  ok = ended result sets;
  err = failed result;
}
  where
    t : Track
    t = track core.tracks place

    size : ℕ
    size = sized core.size t.span

    -- the core with its size word set
    base : Core
    base = record core { size = size; sizes = [] }

    before : Core
    before = after core (events.Finish place (sized_end gate))

    tried : Core
    tried = after core (events.Finish place (sized_end Unsure))

    out : is_out t.state ≡ true
    out = (both (is_out t.state) (ends_well core place (sized_end gate))
        (both (is_in_phase core.crashed (events.Finish place (sized_end gate))) (may_finish core place (sized_end gate)) allowed).1).0

    some : place ≡ 0 → ⊥
    some = some_place is_out refl core.tracks place out

    within : place ≤ length core.tracks
    within = within_place is_out refl core.tracks place some out

    within_before : place ≤ length before.tracks
    within_before = omega (arith, within, length-set core.tracks (place - 1) (put_back t gate true))

    to_tried : with_track before place (put_back t Unsure true) ≡ tried
    to_tried = again base place (put_back t gate true) (put_back t Unsure true)

    to_retired : with_track tried place (retired t) ≡ after core (events.Finish place ends.Retired)
    to_retired = again base place (put_back t Unsure true) (retired t)

    known : (at : Core) (u : Track) → ((d : Doubt) → at.doubt ≡ Some d → d.entry.place ≢ place) → place ≤ length at.tracks →
        holding (with_track at place u) at.doubt place ≡ logged_at at.log u place
    known at u away inside = holding-logged (with_track at place u) at.doubt place away
        ∙ ap (λ (v : Track). logged_at at.log v place) (track-here at place u some inside)

    was : holding before before.doubt place ≡ logged_at core.log (put_back t gate true) place
    was = known base (put_back t gate true) beside within

    is_tried : holding tried tried.doubt place ≡ logged_at core.log (put_back t Unsure true) place
    is_tried = known base (put_back t Unsure true) beside within

    fits : (image : List ℕ) (rest : List (List ℕ)) → IsSetFrom head 0 0 image → IsEachImage IsImage tails rest →
        SlotFits ino place (holding tried tried.doubt place) (image ∷ rest)
    fits image rest set_ images =
        let first : SlotFits ino place (logged_at core.log (put_back t gate true) place) (set_.first ∷ rest) =
        rw was at (shows.slots place (set_.first ∷ rest) (rw here (set_.possible, images))) in
        rw is_tried (elim set_.same [
          | inl same ↦
              rw same (unsure-fits ino place (logged_at core.log (put_back t gate true) place)
              (logged_at core.log (put_back t Unsure true) place) (set_.first ∷ rest) first refl refl refl)
          | inr done ↦
              rw done (closed-fits ino place (logged_at core.log (put_back t Unsure true) place) (set set_.first 0 0) rest
              (zero_gate set_.first) refl)
        ])
      where
        zero_gate : (words : List ℕ) → gate_of (set words 0 0) ≡ 0
        zero_gate [] = refl
        zero_gate (word ∷ words) = refl

    all : WorldMoments (Recovers ino n tried) asked_old world asked_new (with_slots place (new ∷ tails) world)
        × Shows ino tried (with_slots place (new ∷ tails) world)
    all = heads-set ino n place 0 0 before tried world head new tails asked_old asked_new shows here
        (subst (λ c. DiffersAt place before c) to_tried (track-differs before place (put_back t Unsure true) some)) good
        (subst (λ c. HasShape c) to_tried (track-shape before place (put_back t Unsure true) some shows.shape beside)) room
        fits sets.moments

    failed : (result : Answer) → OnErr result (Shows ino tried (with_slots place (new ∷ tails) world))
    failed (Ok value) = tt
    failed (Err e) = all.1

    ended : (result : Answer) → SetsWord obeys 0 0 result asked_old head asked_new new →
        OnOk result (Shows ino (after core (events.Finish place ends.Retired)) (with_slots place (new ∷ tails) world))
    ended (Err e) sets = tt
    ended (Ok value) sets =
        let now : Core = with_track tried place (retired t) in
        let inside : place ≤ length tried.tracks = omega (arith, within, length-set core.tracks (place - 1) (put_back t Unsure true)) in
        let off : (holding now now.doubt place).gate ≡ Off = ap (λ (h : Holding). h.gate) (known tried (retired t) beside inside) in
        subst (λ c. Shows ino c (with_slots place (new ∷ tails) world)) to_retired
        (closed-shows ino place tried now world (new ∷ tails) all.1
        (closed-shut obeys value head new tails asked_old asked_new sets)
        (track-differs tried place (retired t) some)
        (track-shape tried place (retired t) some all.1.shape beside) off)
