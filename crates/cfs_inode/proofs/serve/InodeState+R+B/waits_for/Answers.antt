use Rattle.std.proofs.Common.{◌≡◌, ◌∙◌, ap, None, Option, Some, sym, ℕ}
use Rattle.std.specs.Option.{option_or}
use Rattle.cfs_core.specs.Words.{start_of}
use Rattle.cfs_tracker.specs.Reads.{blocker_of}
use Rattle.cfs_tracker.specs.View.{read_at, view_of}
use Rattle.cfs_inode.specs.Serves.{lender_for, lender_in}
use Rattle.cfs_inode.specs.View.{held_of, state_view}
use Rattle.cfs_inode.proofs.Works.{blocker-told}
use Rattle.cfs_inode.proofs.serve.InodeState+R+B.waits_for.Goals as goal

pub returns-in-Some : goal.returns-in-Some
returns-in-Some g c =
    let state = state_view g.R.Region.seen g.B.Block.seen c.args.self.now in
    let read = read_at state.tracker.reads c.args.place in
    let is : blocker_of state.tracker.entries read ≡ Some c.in-Some.before =
    blocker-told (held_of g.R.Region.seen) (view_of c.args.self.now.tracker).entries read
    ∙ sym c.read_blocker.ensures ∙ c.in-Some.is in
    sym (ap (λ (o : Option ℕ). option_or o (lender_for state.tracker.cells read)) is)

pub returns-in-None : goal.returns-in-None
returns-in-None g c =
    let state = state_view g.R.Region.seen g.B.Block.seen c.args.self.now in
    let cells = state.tracker.cells in
    let read = read_at state.tracker.reads c.args.place in
    let is : blocker_of state.tracker.entries read ≡ None =
    blocker-told (held_of g.R.Region.seen) (view_of c.args.self.now.tracker).entries read
    ∙ sym c.read_blocker.ensures ∙ c.in-None.is in
    c.lender.ensures
    ∙ ap (λ from. lender_in cells from c.args.to) c.requires.from_is
    ∙ ap (λ to. lender_in cells (start_of c.requires.read.span) to) c.requires.to_is
    ∙ sym (ap (λ (o : Option ℕ). option_or o (lender_for cells read)) is
    ∙ ap (lender_for cells) c.requires.there)
