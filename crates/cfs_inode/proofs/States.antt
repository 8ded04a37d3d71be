-- What a state is seen as when its tracker has changed.
use Rattle.std.proofs.Common.{◌≡◌, ◌∙◌, ap, [], ◌∷◌, Option, None, Some, refl, sym, true, ℕ}
use Rattle.std.specs.Prelude.{is_some}
use Rattle.std.proofs.lemmas.List.{map-append}
use Rattle.std.specs.Option.{option_map}
use Rattle.cfs_file.specs.declared.request.Request.{Request}
use Rattle.cfs_pmem.specs.Images.{Seen, WordStep}
use Rattle.cfs_block.specs.BlockImages.{BlockStep}
use Rattle.cfs_slot.specs.declared.doubt.Doubt.{Doubt}
use Rattle.cfs_slot.specs.declared.live.Live.{Live}
use Rattle.cfs_tracker.specs.declared.in_doubt.InDoubt.{InDoubt}
use Rattle.cfs_tracker.specs.declared.tracker.Tracker.{Tracker}
use Rattle.cfs_tracker.specs.Admit.{admitted, doubted, pending}
use Rattle.cfs_tracker.specs.Reads.{read_admitted, read_ended}
use Rattle.cfs_tracker.specs.Settle.{doubt_slots, settled, settling, unsettled, with_slots}
use Rattle.cfs_tracker.specs.Skip.{closing, covered_slots, skipped, unclosed}
use Rattle.cfs_tracker.specs.View.{TrackerView, entry_at, view_of}
use Rattle.cfs_inode.specs.declared.state.State.{State}
use Rattle.cfs_inode.specs.Ends.{noop_at, slots_in_doubt, with_doubt, with_noop, without_doubt, without_noop}
use Rattle.cfs_inode.specs.Opening.{with_admitted, with_doubted}
use Rattle.cfs_inode.specs.Reads.{with_read, without_read}
use Rattle.cfs_inode.specs.View.{held_of, seens_of, state_view, told, told_doubt, told_entry}
use Rattle.cfs_inode.proofs.Tells.{covered-told, told-skipped, told-unclosed}

-- the state with another tracker, seen by what that tracker is seen as
pub state-told : {R B : Type 0} {g : _} (words : R → Seen WordStep) (bytes : B → Seen BlockStep)
    (state : State R B (Live R g) (Doubt R g)) (now : Tracker (Live R g) (Doubt R g) B)
    (view : TrackerView (Live R g) (Doubt R g) B) → view_of now ≡ view →
    state_view words bytes (record state { tracker = now })
    ≡ record (state_view words bytes state) {
      tracker = told (held_of words) (seens_of words) bytes view;
    }
state-told words bytes state now view is =
    ap (λ v. record (state_view words bytes state) {
      tracker = told (held_of words) (seens_of words) bytes v;
    }) is

pub state-same : {R B : Type 0} {g : _} (words : R → Seen WordStep) (bytes : B → Seen BlockStep)
    (state : State R B (Live R g) (Doubt R g)) (now : Tracker (Live R g) (Doubt R g) B) →
    view_of now ≡ view_of state.tracker →
    state_view words bytes (record state { tracker = now }) ≡ state_view words bytes state
state-same words bytes state now is =
    state-told words bytes state now (view_of state.tracker) is

-- ---- no-ops

pub state-noop : {R B : Type 0} {g : _} (words : R → Seen WordStep) (bytes : B → Seen BlockStep)
    (state : State R B (Live R g) (Doubt R g)) (place : ℕ) (slots : Option (Live R g)) →
    slots ≡ covered_slots (entry_at (view_of state.tracker).entries place) →
    noop_at (state_view words bytes state) place ≡ option_map (held_of words) slots
state-noop words bytes state place slots is =
    covered-told (held_of words) (view_of state.tracker).entries place
    ∙ ap (λ o. option_map (held_of words) o) (sym is)

pub state-skipped : {R B : Type 0} {g : _} (words : R → Seen WordStep) (bytes : B → Seen BlockStep)
    (state : State R B (Live R g) (Doubt R g)) (now : Tracker (Live R g) (Doubt R g) B)
    (mid : TrackerView (Live R g) (Doubt R g) B) (place : ℕ) → view_of now ≡ skipped place mid →
    mid ≡ closing place (view_of state.tracker) →
    state_view words bytes (record state { tracker = now })
    ≡ without_noop place (state_view words bytes state)
state-skipped words bytes state now mid place is was =
    state-told words bytes state now (skipped place (closing place (view_of state.tracker)))
    (is ∙ ap (λ v. skipped place v) was)
    ∙ ap (λ t. record (state_view words bytes state) { tracker = t })
    (told-skipped (held_of words) (seens_of words) bytes place (view_of state.tracker))

pub state-unclosed : {R B : Type 0} {g : _} (words : R → Seen WordStep)
    (bytes : B → Seen BlockStep) (state : State R B (Live R g) (Doubt R g))
    (now : Tracker (Live R g) (Doubt R g) B) (mid : TrackerView (Live R g) (Doubt R g) B)
    (place : ℕ) (live : Live R g) → view_of now ≡ unclosed place live mid →
    mid ≡ closing place (view_of state.tracker) →
    state_view words bytes (record state { tracker = now })
    ≡ with_noop place (held_of words live) (state_view words bytes state)
state-unclosed words bytes state now mid place live is was =
    state-told words bytes state now
    (unclosed place live (closing place (view_of state.tracker)))
    (is ∙ ap (λ v. unclosed place live v) was)
    ∙ ap (λ t. record (state_view words bytes state) { tracker = t })
    (told-unclosed (held_of words) (seens_of words) bytes place live (view_of state.tracker))

-- ---- the request in doubt

pub doubt-told : {D E : Type 0} (tell : D → E) (doubt : Option (InDoubt D)) →
    doubt_slots (option_map (told_doubt tell) doubt) ≡ option_map tell (doubt_slots doubt)
doubt-told tell None = refl
doubt-told tell (Some doubt) = refl

pub state-doubt : {R B : Type 0} {g : _} (words : R → Seen WordStep) (bytes : B → Seen BlockStep)
    (state : State R B (Live R g) (Doubt R g)) (slots : Option (Doubt R g)) →
    slots ≡ doubt_slots (view_of state.tracker).doubt →
    slots_in_doubt (state_view words bytes state) ≡ option_map (seens_of words) slots
state-doubt words bytes state slots is =
    doubt-told (seens_of words) (view_of state.tracker).doubt
    ∙ ap (λ o. option_map (seens_of words) o) (sym is)

none-taken : {D : Type 0} (doubt : Option (InDoubt D)) → None ≡ doubt_slots doubt →
    with_slots None doubt ≡ doubt
none-taken None h = refl
none-taken {D} (Some doubt) h =
    ap (λ (s : Option D). Some (record doubt { slots = s })) h

pub some-taken : {D : Type 0} (doubt : Option (InDoubt D)) (slots : D) →
    Some slots ≡ doubt_slots doubt → is_some (with_slots None doubt) ≡ true
some-taken None slots h = cc
some-taken (Some doubt) slots h = refl

-- once they are taken, they are out
pub taken-out : {D : Type 0} (doubt : Option (InDoubt D)) →
    doubt_slots (with_slots None doubt) ≡ None
taken-out None = refl
taken-out (Some doubt) = refl

-- taken where there is none, it is as it was
pub view-settling : {S D B : Type 0} (view : TrackerView S D B) → None ≡ doubt_slots view.doubt →
    settling view ≡ view
view-settling view h = ap (λ d. record view { doubt = d }) (none-taken view.doubt h)

back-told : {D E : Type 0} (tell : D → E) (doubt : Option (InDoubt D)) (slots : D) →
    option_map (told_doubt tell) (with_slots (Some slots) (with_slots None doubt))
    ≡ with_slots (Some (tell slots)) (option_map (told_doubt tell) doubt)
back-told tell None slots = refl
back-told tell (Some doubt) slots = refl

pub state-settled : {R B : Type 0} {g : _} (words : R → Seen WordStep) (bytes : B → Seen BlockStep)
    (state : State R B (Live R g) (Doubt R g)) (now : Tracker (Live R g) (Doubt R g) B)
    (mid : TrackerView (Live R g) (Doubt R g) B) → view_of now ≡ settled mid →
    mid ≡ settling (view_of state.tracker) →
    state_view words bytes (record state { tracker = now })
    ≡ without_doubt (state_view words bytes state)
state-settled words bytes state now mid is was =
    state-told words bytes state now (settled (settling (view_of state.tracker)))
    (is ∙ ap (λ v. settled v) was)

pub state-unsettled : {R B : Type 0} {g : _} (words : R → Seen WordStep)
    (bytes : B → Seen BlockStep) (state : State R B (Live R g) (Doubt R g))
    (now : Tracker (Live R g) (Doubt R g) B) (mid : TrackerView (Live R g) (Doubt R g) B)
    (doubt : Doubt R g) → view_of now ≡ unsettled doubt mid →
    mid ≡ settling (view_of state.tracker) →
    state_view words bytes (record state { tracker = now })
    ≡ with_doubt (seens_of words doubt) (state_view words bytes state)
state-unsettled words bytes state now mid doubt is was =
    state-told words bytes state now (unsettled doubt (settling (view_of state.tracker)))
    (is ∙ ap (λ v. unsettled doubt v) was)
    ∙ ap (λ d. record (state_view words bytes state) {
      tracker = record (state_view words bytes state).tracker { doubt = d };
    }) (back-told (seens_of words) (view_of state.tracker).doubt doubt)

-- ---- an admission

pub state-admitted : {R B : Type 0} {g : _} (words : R → Seen WordStep)
    (bytes : B → Seen BlockStep) (state : State R B (Live R g) (Doubt R g))
    (now : Tracker (Live R g) (Doubt R g) B) (request : Request) (grant : ℕ) (live : Live R g) →
    view_of now ≡ admitted request grant live (view_of state.tracker) →
    state_view words bytes (record state { tracker = now })
    ≡ with_admitted request grant (held_of words live) (state_view words bytes state)
state-admitted {R} {B} {g} words bytes state now request grant live is =
    state-told words bytes state now (admitted request grant live (view_of state.tracker)) is
    ∙ ap (λ es. record (state_view words bytes state) {
      tracker = record (admitted request grant (held_of words live)
          (state_view words bytes state).tracker) { entries = es };
    }) (map-append (told_entry (held_of {R = R} {g = g} words)) (view_of state.tracker).entries
    (pending request grant live (view_of state.tracker) ∷ []))

pub state-doubted : {R B : Type 0} {g : _} (words : R → Seen WordStep)
    (bytes : B → Seen BlockStep) (state : State R B (Live R g) (Doubt R g))
    (now : Tracker (Live R g) (Doubt R g) B) (request : Request) (grant : ℕ) (doubt : Doubt R g) →
    view_of now ≡ doubted request grant doubt (view_of state.tracker) →
    state_view words bytes (record state { tracker = now })
    ≡ with_doubted request grant (seens_of words doubt) (state_view words bytes state)
state-doubted words bytes state now request grant doubt is =
    state-told words bytes state now (doubted request grant doubt (view_of state.tracker)) is

-- ---- reads

pub state-read : {R B : Type 0} {g : _} (words : R → Seen WordStep) (bytes : B → Seen BlockStep)
    (state : State R B (Live R g) (Doubt R g)) (now : Tracker (Live R g) (Doubt R g) B)
    (request : Request) → view_of now ≡ read_admitted request (view_of state.tracker) →
    state_view words bytes (record state { tracker = now })
    ≡ with_read request (state_view words bytes state)
state-read words bytes state now request is =
    state-told words bytes state now (read_admitted request (view_of state.tracker)) is

pub state-dropped : {R B : Type 0} {g : _} (words : R → Seen WordStep) (bytes : B → Seen BlockStep)
    (state : State R B (Live R g) (Doubt R g)) (now : Tracker (Live R g) (Doubt R g) B)
    (place : ℕ) → view_of now ≡ read_ended place (view_of state.tracker) →
    state_view words bytes (record state { tracker = now })
    ≡ without_read place (state_view words bytes state)
state-dropped words bytes state now place is =
    state-told words bytes state now (read_ended place (view_of state.tracker)) is
