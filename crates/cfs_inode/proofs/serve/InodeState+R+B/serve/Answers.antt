use Rattle.std.proofs.Common.{◌≡◌, ◌∙◌, ◌++◌, [], ◌∷◌, ap, length, List, None, Some, subst, sym, ℕ}
use Rattle.cfs_core.specs.declared.event.Event.TheVariants as events
use Rattle.cfs_core.specs.Words.{end_of, start_of}
use Rattle.cfs_pmem.specs.Operations.{all_allowed}
use Rattle.cfs_tracker.specs.declared.reading.Reading.{Reading}
use Rattle.cfs_tracker.specs.Reads.{blocker_of}
use Rattle.cfs_tracker.specs.View.{read_at, view_of}
use Rattle.cfs_inode.specs.Makes.{CallMakes}
use Rattle.cfs_inode.specs.Reads.{without_read}
use Rattle.cfs_inode.specs.Serves.{ReadsStop, blocks_between, bytes_for, count_of, devices_for}
use Rattle.cfs_inode.specs.Serves.{home_devices, lender_for, lender_in, read_ask, read_of}
use Rattle.cfs_inode.specs.Serves.{stored_bytes, stored_from, waits_for}
use Rattle.cfs_inode.specs.View.{StateView, held_of, state_view}
use Rattle.cfs_inode.proofs.Copies.{full, some-same}
use Rattle.cfs_inode.proofs.Resting.{rests}
use Rattle.cfs_inode.proofs.Serving.{or-none, serve-made, serve-makes}
use Rattle.cfs_inode.proofs.States.{state-dropped}
use Rattle.cfs_inode.proofs.Works.{blocker-told}
use Rattle.cfs_inode.proofs.serve.InodeState+R+B.serve.Goals as goal

-- what is known once a read waits for nothing
record IsReady (state : StateView) (place : ℕ) (read : Reading) : Type 0 where
  ready : blocker_of state.tracker.entries (read_at state.tracker.reads place) ≡ None
  free : lender_in state.tracker.cells (start_of read.span) (end_of read.span) ≡ None

is-ready : (state : StateView) (place : ℕ) (read : Reading) →
    read_at state.tracker.reads place ≡ Some read → waits_for state place ≡ None →
    IsReady state place read
is-ready state place read there none =
    let both = or-none (blocker_of state.tracker.entries (read_at state.tracker.reads place))
    (lender_for state.tracker.cells (read_at state.tracker.reads place)) none in
    record {
      ready = both.0;
      free = sym (ap (lender_for state.tracker.cells) there) ∙ both.1;
    }

bytes-are : (state : StateView) (place from count : ℕ) (read wanted : Reading) (out : List ℕ) →
    read_at state.tracker.reads place ≡ Some read →
    read_at state.tracker.reads place ≡ Some wanted → from ≡ start_of read.span →
    count ≡ count_of wanted.span → out ≡ stored_from state from count →
    out ≡ stored_bytes state read.span
bytes-are state place from count read wanted out there want begins room is =
    let same : wanted ≡ read = some-same wanted read (sym want ∙ there) in
    is ∙ ap (λ a. stored_from state a count) begins
    ∙ ap (λ n. stored_from state (start_of read.span) n)
    (room ∙ ap (λ (r : Reading). count_of r.span) same)

devices-are : (state : StateView) (place from to : ℕ) (read : Reading) →
    read_at state.tracker.reads place ≡ Some read → from ≡ start_of read.span →
    to ≡ end_of read.span →
    devices_for state (read_of state place)
    ≡ home_devices state.tracker.cells (blocks_between from to)
devices-are state place from to read there begins ends =
    ap (devices_for state) there
    ∙ ap (λ a. home_devices state.tracker.cells (blocks_between a (end_of read.span))) (sym begins)
    ∙ ap (λ b. home_devices state.tracker.cells (blocks_between from b)) (sym ends)

pub returns-in-Some-waits_for-clause-makes : goal.returns-in-Some-waits_for-clause-makes
returns-in-Some-waits_for-clause-makes g c =
    rests (state_view g.R.Region.seen g.B.Block.seen c.args.self.now)
    (g.P.Power.asked c.args.power.now)

pub served-requires-clause-ready : goal.served-requires-clause-ready
served-requires-clause-ready g c =
    let state = state_view g.R.Region.seen g.B.Block.seen c.args.self.now in
    let now = view_of c.copy.new.self.tracker in
    let is = is-ready state c.args.place c.in-Some.read (sym c.read.ensures ∙ c.in-Some.is)
    (sym c.waits_for.ensures ∙ c.in_default-waits_for.is) in
    sym (blocker-told (held_of g.R.Region.seen) now.entries (read_at now.reads c.args.place))
    ∙ ap (λ (s : StateView). blocker_of s.tracker.entries (read_at s.tracker.reads c.args.place))
    c.copy.ensures.view
    ∙ is.ready

pub returns-in-Ok-clause-serves : goal.returns-in-Ok-clause-serves
returns-in-Ok-clause-serves g c =
    let state = state_view g.R.Region.seen g.B.Block.seen c.args.self.now in
    let there : read_at state.tracker.reads c.args.place ≡ Some c.in-Some.read =
    sym c.read.ensures ∙ c.in-Some.is in
    let bytes = bytes-are state c.args.place c.start_of-from.result (length c.args.out.now)
    c.in-Some.read c.requires.read c.copy.new.out there c.requires.there
    c.start_of-from.ensures c.requires.room c.in-Ok.ensures.bytes in
    let devices = devices-are state c.args.place c.start_of-from.result c.end_of-to.result
    c.in-Some.read there c.start_of-from.ensures c.end_of-to.ensures in (
      sym c.waits_for.ensures ∙ c.in_default-waits_for.is,
      (
        bytes ∙ sym (ap (bytes_for state) there),
        (
          state-dropped g.R.Region.seen g.B.Block.seen c.copy.new.self c.served.new.self
              c.args.place c.served.ensures.view
              ∙ ap (without_read c.args.place) c.copy.ensures.view,
          λ obeys.
              c.in-Ok.ensures.reads obeys
              ∙ ap (λ ds. all_allowed read_ask ds ++ g.P.Power.asked c.args.power.now)
              (sym devices),
        ),
      ),
    )

pub returns-in-Ok-clause-makes : goal.returns-in-Ok-clause-makes
returns-in-Ok-clause-makes g c =
    let state = state_view g.R.Region.seen g.B.Block.seen c.args.self.now in
    let place = c.args.place in
    let asked_old = g.P.Power.asked c.args.power.now in
    let asked_new = g.P.Power.asked c.copy.new.power in
    let there : read_at state.tracker.reads place ≡ Some c.in-Some.read =
    sym c.read.ensures ∙ c.in-Some.is in
    let is = is-ready state place c.in-Some.read there
    (sym c.waits_for.ensures ∙ c.in_default-waits_for.is) in
    let bytes = bytes-are state place c.start_of-from.result (length c.args.out.now)
    c.in-Some.read c.requires.read c.copy.new.out there c.requires.there
    c.start_of-from.ensures c.requires.room c.in-Ok.ensures.bytes in
    let view = state-dropped g.R.Region.seen g.B.Block.seen c.copy.new.self c.served.new.self place
    c.served.ensures.view ∙ ap (without_read place) c.copy.ensures.view in
    let made = serve-makes state place (stored_bytes state c.in-Some.read.span) asked_old asked_new
    c.copy.ensures.makes
    (serve-made state place c.in-Some.read there is.ready is.free
    (full g.R.Region.seen g.B.Block.seen c.args.self.now g.met.B.Block.full)) in
    subst (λ (s : StateView).
    CallMakes (events.Serve place (Some c.copy.new.out) ∷ []) asked_old state asked_new s)
    (sym view)
    (subst (λ (bs : List ℕ).
    CallMakes (events.Serve place (Some bs) ∷ []) asked_old state asked_new
    (without_read place state)) (sym bytes) made)

pub returns-in-Err-clause-serves : goal.returns-in-Err-clause-serves
returns-in-Err-clause-serves g c =
    let state = state_view g.R.Region.seen g.B.Block.seen c.args.self.now in
    let there : read_at state.tracker.reads c.args.place ≡ Some c.in-Some.read =
    sym c.read.ensures ∙ c.in-Some.is in
    let devices = devices-are state c.args.place c.start_of-from.result c.end_of-to.result
    c.in-Some.read there c.start_of-from.ensures c.end_of-to.ensures in (
      sym c.waits_for.ensures ∙ c.in_default-waits_for.is,
      (
        c.copy.ensures.view,
        λ obeys.
            subst (λ ds. ReadsStop ds (g.P.Power.asked c.args.power.now)
            (g.P.Power.asked c.copy.new.power)) (sym devices) (c.in-Err.ensures.reads obeys),
      ),
    )

pub returns-in-Err-clause-makes : goal.returns-in-Err-clause-makes
returns-in-Err-clause-makes g c =
    let state = state_view g.R.Region.seen g.B.Block.seen c.args.self.now in
    let asked_old = g.P.Power.asked c.args.power.now in
    let asked_new = g.P.Power.asked c.copy.new.power in
    subst (λ (s : StateView). CallMakes [] asked_old state asked_new s) (sym c.copy.ensures.view)
    c.copy.ensures.makes
