-- What calls about jobs ask for is known where a state stands.
use Rattle.std.proofs.Common.{◌≡◌, ◌∙◌, ◌+◌, ◌-◌, ◌<◌, ◌==◌, ap, arith, length, List, [], ◌∷◌}
use Rattle.std.proofs.Common.{map, suc}
use Rattle.std.proofs.Common.{Option, None, Some, refl, subst, sym, true, false, ℕ, Bool}
use Rattle.std.specs.Prelude.{option_map, slice_get}
use Rattle.std.specs.List.{list_all}
use Rattle.std.proofs.lemmas.Bool.Decides.{nat_tests}
use Rattle.cfs_file.specs.declared.entry.Entry.{Entry}
use Rattle.cfs_file.specs.declared.request.Request.{Request}
use Rattle.cfs_file.specs.declared.request.Request.TheVariants as requests
use Rattle.cfs_file.specs.declared.span.Span.{Span}
use Rattle.cfs_file.specs.declared.span.Span.TheVariants.{Range}
use Rattle.cfs_file.specs.Span.{span}
use Rattle.cfs_core.specs.declared.doubt.Doubt.{Doubt}
use Rattle.cfs_core.specs.declared.flag.Flag.{Flag}
use Rattle.cfs_core.specs.declared.flag.Flag.TheVariants.{On}
use Rattle.cfs_core.specs.declared.inode_core.Core.{Core}
use Rattle.cfs_core.specs.declared.state.Job.{Job}
use Rattle.cfs_core.specs.declared.state.State.{State}
use Rattle.cfs_core.specs.declared.state.State.TheVariants as states
use Rattle.cfs_core.specs.declared.track.Track.{Track}
use Rattle.cfs_core.specs.May.{is_change}
use Rattle.cfs_core.specs.Medium.{placed}
use Rattle.cfs_core.specs.Words.{can_be, is_live, is_waiting, track}
use Rattle.cfs_core.proofs.Kept.{IsLogged, at, file_at, is_changing}
use Rattle.cfs_core.proofs.Order.{track_is}
use Rattle.cfs_core.proofs.Registers.{between-some, some_bytes}
use Rattle.cfs_pmem.specs.Images.{Seen, IsImage, words_of}
use Rattle.cfs_pmem.specs.Objects.{IsEachImage}
use Rattle.cfs_pmem.proofs.ImageLemmas.{now_is_image}
use Rattle.cfs_job.specs.Stands.{IsOpen, IsSpanOf}
use Rattle.cfs_job.specs.Steps.{core_job, lease_in}
use Rattle.cfs_job.specs.Views.{TileView, request_seen}
use Rattle.cfs_medium.specs.Shows.{Holding, SlotFits, entry_of, is_gated, logged_at}
use Rattle.cfs_medium.specs.World.{World, head_words}
use Rattle.cfs_medium.proofs.SlotEvents.{holding-logged}
use Rattle.cfs_tracker.specs.declared.doing.Doing.{Doing}
use Rattle.cfs_tracker.specs.declared.doing.Doing.TheVariants as doings
use Rattle.cfs_tracker.specs.declared.pending.Pending.{Pending}
use Rattle.cfs_tracker.specs.declared.reading.Reading.{Reading}
use Rattle.cfs_tracker.specs.Cells.{cell_at}
use Rattle.cfs_tracker.specs.Dispatch.{is_still, sent, waiting_in}
use Rattle.cfs_tracker.specs.Finish.{blocks_in, blocks_out, number_of}
use Rattle.cfs_tracker.specs.Follows.{IsDoing, StandsAt, block_of, is_dead}
use Rattle.cfs_tracker.specs.declared.cell.Cell.{Cell}
use Rattle.cfs_tracker.specs.declared.cell.Cell.TheVariants as kinds
use Rattle.cfs_tracker.specs.View.{doing, entry_at, read_at, with_entry}
use Rattle.cfs_tracker.proofs.Entries.{here-with}
use Rattle.cfs_block.specs.BlockImages.{BlockStep}
use Rattle.cfs_tracker.proofs.Behind.{doubt-behind}
use Rattle.cfs_tracker.proofs.Putting.{track-of}
use Rattle.cfs_tracker.proofs.Tracks.{in-log}
use Rattle.cfs_inode.specs.Backs.{HasOut, tile_back}
use Rattle.cfs_inode.specs.Jobs.{AreTile}
use Rattle.cfs_inode.specs.Knows.{JobsAreOut, StandingAreReady, TakenAreOut}
use Rattle.cfs_inode.specs.Stands.{IsAtRest, Stands}
use Rattle.cfs_inode.specs.View.{Held, Seens, StateView}
use Rattle.cfs_inode.proofs.Dispatches.{waiting-slots, waits-state}
use Rattle.cfs_core_laws.proofs.Whole.{whole}

-- ---- a job that is out

out-doing : (now : Doing Held) (s : State) (j : Job) → IsDoing now s → s ≡ states.Out j →
    blocks_in now ≡ Some (block_of j.first, block_of j.second)
out-doing (doings.Waiting slots) s j is out =
    (let clash : states.Waiting ≡ states.Out j = sym is ∙ out in cc)
out-doing doings.Marking s j is out =
    (let clash : states.Waiting ≡ states.Out j = sym is ∙ out in cc)
out-doing (doings.Out first second) s j is out =
    let both : states.Out is.job ≡ states.Out j = sym is.out ∙ out in
    let same : is.job ≡ j = cc in
    let own : Some (first, second) ≡ Some (block_of is.job.first, block_of is.job.second) =
    rw (is.first_is, is.second_is) refl in
    own ∙ ap (λ (x : Job). Some (block_of x.first, block_of x.second)) same
out-doing (doings.Covered slots) s j is out =
    (let clash : states.Noop ≡ states.Out j = sym is ∙ out in cc)
out-doing doings.Closing s j is out = (let clash : states.Noop ≡ states.Out j = sym is ∙ out in cc)

out-at : (entry : Option (Pending Held)) (read : Option Reading) (t : Track) (j : Job) →
    StandsAt entry read t → t.state ≡ states.Out j →
    blocks_out entry ≡ Some (block_of j.first, block_of j.second)
out-at None None t j is out = (let clash : states.Closed ≡ states.Out j = sym is ∙ out in cc)
out-at None (Some read) t j is out =
    (let clash : states.Unserved ≡ states.Out j = sym is.state ∙ out in cc)
out-at (Some entry) None t j is out = out-doing entry.doing t.state j is.doing out
out-at (Some entry) (Some read) t j is out = absurd is

lease-number : (tile : Option TileView) → block_of (lease_in tile) ≡ number_of (tile_back tile)
lease-number None = refl
lease-number (Some tile) = refl

pub jobs-out : JobsAreOut
jobs-out state job jobs core world together = record {
  ino_is = together.out.0.ino_is;
  out = out-at (entry_at state.tracker.entries job.place) (read_at state.tracker.reads job.place)
      (track core.tracks job.place) (core_job job) (together.stands.follows.entries job.place)
      together.out.0.state
      ∙ rw (lease-number job.first, lease-number job.second) refl;
}

-- ---- a change that waits

-- the span of a request as its slots hold it is the same on every file
placed-span : (request : Request) (of : Span) (size : ℕ) → is_change request ≡ true →
    of ≡ span request size → of ≡ span (placed of request) 0
placed-span (requests.Write offset bytes) of size h is = is
placed-span (requests.Append bytes) of size h is =
    let some = some_bytes (length bytes) _ h in
    let there : of ≡ Range size (size + length bytes) =
    is ∙ between-some size (size + length bytes) (omega arith) in
    rw there (sym (between-some size (size + length bytes) (omega arith)))
placed-span (requests.Truncate n) of size h is = is
placed-span (requests.Read offset count) of size h is = cc
placed-span requests.Sync of size h is = cc

each-now : (seens : Seens) → IsEachImage IsImage seens (map words_of seens)
each-now [] = tt
each-now (seen ∷ seens) = (now_is_image seen.history, each-now seens)

open-flag : (b : Bool) → can_be On b ≡ true → b ≡ true
open-flag true h = refl
open-flag false h = cc

-- what is known of a change that is not applied
pub record IsHeldOpen (ino place : ℕ) (t : Track) (core : Core) (seens : Seens) : Type 0 where
  pub held : Holding
  pub gate : held.gate ≡ On
  pub request : held.request ≡ option_map (λ e. placed t.span e.request) (entry_of core.log place)
  pub fits : (slots : List (List ℕ)) → IsEachImage IsImage seens slots →
      SlotFits ino place held slots

gated-at : (ino place : ℕ) (held : Holding) (slots : List (List ℕ)) → held.gate ≡ On →
    SlotFits ino place held slots → is_gated (head_words slots) ≡ true
gated-at ino place held slots gate fits =
    open-flag (is_gated (head_words slots))
    (subst (λ (g : Flag). can_be g (is_gated (head_words slots)) ≡ true) gate fits.gate)

none-open : (ino place : ℕ) (t : Track) (core : Core) → IsHeldOpen ino place t core [] → ⊥
none-open ino place t core is =
    let fits = is.fits [] tt in
    let gated : is_gated (head_words []) ≡ true = gated-at ino place is.held [] is.gate fits in
    let shut : is_gated (head_words []) ≡ false = refl in
    cc

is-open : (ino place : ℕ) (t : Track) (core : Core) (seens : Seens) →
    IsHeldOpen ino place t core seens → IsOpen seens place
is-open ino place t core [] is = none-open ino place t core is
is-open ino place t core (head ∷ tails) is = λ image own.
    let fits = is.fits (image ∷ map words_of tails) (own, each-now tails) in
    fits.number (gated-at ino place is.held (image ∷ map words_of tails) is.gate fits)

pub is-request : (ino place : ℕ) (t : Track) (core : Core) (seens : Seens) →
    IsHeldOpen ino place t core seens →
    option_map (λ (e : Entry). placed t.span e.request) (entry_of core.log place)
    ≡ Some (request_seen seens)
is-request ino place t core [] is = absurd (none-open ino place t core is)
is-request ino place t core (head ∷ tails) is =
    let slots = map words_of (head ∷ tails) in
    let fits = is.fits slots (each-now (head ∷ tails)) in
    sym is.request ∙ fits.request (gated-at ino place is.held slots is.gate fits)

-- the change of the log at a place
pub logged-span : (core : Core) (place : ℕ) (entry : Option Entry) (seens : Seens) (t : Track) →
    IsLogged core → (place ≡ 0 → ⊥) → at core (place - 1) ≡ t →
    slice_get core.log (place - 1) ≡ entry →
    ((e : Entry) → entry ≡ Some e → is_change e.request ≡ true) →
    option_map (λ (e : Entry). placed t.span e.request) entry ≡ Some (request_seen seens) →
    IsSpanOf t.span seens
logged-span core place None seens t logged some own there changes is = cc
logged-span core place (Some e) seens t logged some own there changes is =
    let request : placed t.span e.request ≡ request_seen seens = cc in
    let spans = logged.spans (place - 1) e there in
    placed-span e.request t.span (length (file_at core (place - 1))) (changes e refl)
    (ap (λ (u : Track). u.span) (sym own) ∙ spans)
    ∙ ap (λ r. span r 0) request

alive : (now : Doing Held) (held : Held) → waiting_in now ≡ Some held → is_dead now ≡ false
alive (doings.Waiting slots) held h = refl
alive doings.Marking held h = cc
alive (doings.Out first second) held h = cc
alive (doings.Covered slots) held h = cc
alive doings.Closing held h = cc

held-open : (state : StateView) (core : Core) (world : World) (place : ℕ) (entry : Pending Held)
    (held : Held) → Stands state core world → entry_at state.tracker.entries place ≡ Some entry →
    waiting_in entry.doing ≡ Some held → entry.applied ≡ false →
    IsHeldOpen state.ino place (track core.tracks place) core held.slots
held-open state core world place entry held stands there waits open_ =
    let own = track-of state.tracker core place entry stands.follows there in
    let here = stands.slots place entry held there (waiting-slots entry.doing held waits) in
    let beside : (d : Doubt) → core.doubt ≡ Some d → d.entry.place ≡ place → ⊥ =
    λ d is same.
    omega (arith, doubt-behind state.tracker core place entry d stands.follows there is, same) in
    record {
      held = logged_at core.log (track core.tracks place) place;
      gate = own.gate ∙ rw (alive entry.doing held waits, open_) refl;
      request = refl;
      fits = λ slots each.
          subst (λ (h : Holding). SlotFits state.ino place h slots)
          (holding-logged core core.doubt place beside)
          (stands.shows.slots place slots
          (subst (λ (s : Seens). IsEachImage IsImage s slots) (sym here.here) each));
    }

its-span : (state : StateView) (core : Core) (world : World) (place : ℕ) (entry : Pending Held)
    (held : Held) → Stands state core world → entry_at state.tracker.entries place ≡ Some entry →
    waiting_in entry.doing ≡ Some held → entry.applied ≡ false → IsSpanOf entry.span held.slots
its-span state core world place entry held stands there waits open_ =
    let own = track-of state.tracker core place entry stands.follows there in
    let t = track core.tracks place in
    let waiting : t.state ≡ states.Waiting = waits-state entry.doing held t.state waits own.doing in
    let some = (in-log is_waiting refl core.tracks place (rw waiting refl)).0 in
    let here : t ≡ at core (place - 1) = track_is core.tracks place (place - 1) some refl in
    let logged = (whole stands.follows.reached).kept.logged in
    let live : is_live (at core (place - 1)).state ≡ true =
    ap (λ (u : Track). is_live u.state) (sym here) ∙ rw waiting refl in
    let change : is_changing (slice_get core.log (place - 1)) ≡ true =
    logged.live_changes (place - 1) live in
    let at_place : entry_of core.log place ≡ slice_get core.log (place - 1) =
    (let test : (place == 0) ≡ false = grind (arith, nat_tests) in rw test refl) in
    subst (λ s. IsSpanOf s held.slots) own.span
    (logged-span core place (slice_get core.log (place - 1)) held.slots t logged some (sym here)
    refl (λ e is. ap is_changing (sym is) ∙ change)
    (ap (λ (o : Option Entry). option_map (λ (e : Entry). placed t.span e.request) o)
    (sym at_place)
    ∙ is-request state.ino place t core held.slots
    (held-open state core world place entry held stands there waits open_)))

-- no block is in the caller's hands
rest-still : (ino block : ℕ) (cell : Cell (Seen BlockStep)) → IsAtRest ino block cell →
    is_still cell ≡ true
rest-still ino block kinds.Hole rest = refl
rest-still ino block (kinds.Home seen) rest = refl
rest-still ino block (kinds.Unsure seen) rest = refl
rest-still ino block (kinds.Lent place) rest = refl
rest-still ino block (kinds.Moving is_sure) rest = absurd rest

all-still : (ino from : ℕ) (cells : List (Cell (Seen BlockStep))) →
    ((k : ℕ) → k < length cells → IsAtRest ino (from + k) (cell_at cells k)) →
    list_all (λ cell. is_still cell) cells ≡ true
all-still ino from [] rest = refl
all-still ino from (cell ∷ cells) rest =
    let first : is_still cell ≡ true =
    rest-still ino (from + 0) cell (rest 0 (omega arith)) in
    let others = all-still ino (from + 1) cells (λ k less.
    subst (λ (n : ℕ). IsAtRest ino n (cell_at cells k)) (omega arith)
    (rest (suc k) (omega (arith, less)))) in
    rw first others

pub standing-ready : StandingAreReady
standing-ready state core world place stands = record {
  still = all-still state.ino 0 state.tracker.cells (λ k less.
      subst (λ (n : ℕ). IsAtRest state.ino n (cell_at state.tracker.cells k)) (omega arith)
      (stands.rest k (omega (arith, less, stands.follows.many))));
  opened = λ entry held there waits. record {
    placed = (stands.slots place entry held there (waiting-slots entry.doing held waits)).opened;
    spans = λ open_. its-span state core world place entry held stands there waits open_;
    opened = λ open_.
        is-open state.ino place (track core.tracks place) core held.slots
        (held-open state core world place entry held stands there waits open_);
  };
}

-- ---- a job that was given out

tile-number : (cells : List (Cell (Seen BlockStep))) (block : Option ℕ) (tile : Option TileView) →
    AreTile cells block tile → number_of (tile_back tile) ≡ block
tile-number cells None None are = refl
tile-number cells None (Some tile) are = absurd are
tile-number cells (Some block) None are = absurd are
tile-number cells (Some block) (Some tile) are = ap (λ (n : ℕ). Some n) are.at

pub taken-out : TakenAreOut
taken-out place job old new is =
    let es = old.tracker.entries in
    let change : Pending Held → Pending Held = sent is.first is.second in
    let there : entry_at (with_entry place change es) place ≡ Some (change is.entry) =
    here-with es place change (λ e. refl)
    ∙ ap (λ (o : Option (Pending Held)). option_map change o) is.given.there in
    let cells = old.tracker.cells in
    subst (λ (s : StateView). HasOut s job) (sym is.view) (record {
      ino_is = is.given.ino_is;
      out = ap (λ p. blocks_out (entry_at (with_entry place change es) p)) is.given.place_is
          ∙ (ap (λ (o : Option (Pending Held)). blocks_out o) there
          ∙ rw (
            tile-number cells is.first job.first is.given.first_is,
            tile-number cells is.second job.second is.given.second_is,
          ) refl);
    })
