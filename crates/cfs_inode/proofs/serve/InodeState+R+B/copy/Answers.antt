use Rattle.std.proofs.Common.{◌≡◌, ◌∙◌, ◌<◌, ap, get_or, if◌then◌else◌, subst}
use Rattle.std.specs.Prelude.{nat_lt}
use Rattle.cfs_inode.specs.Serves.{stored_from}
use Rattle.cfs_inode.specs.View.{StateView, state_view}
use Rattle.cfs_inode.proofs.Copies.{cleared}
use Rattle.cfs_inode.proofs.serve.InodeState+R+B.copy.Goals as goal

pub returns-clause-bytes : goal.returns-clause-bytes
returns-clause-bytes g c =
    let state = state_view g.R.Region.seen g.B.Block.seen c.args.self.now in
    let xs = c.copy_blocks.new.out in
    let stored : c.size-stored.result.0 ≡ state.tracker.stored =
    ap (λ p. p.0) c.size-stored.ensures
    ∙ ap (λ (s : StateView). s.tracker.stored) c.copy_blocks.ensures.view in
    cleared state xs c.clear_from.new.out c.args.from c.size-stored.result.0 stored
    c.clear_from.ensures.size
    (λ i less.
    c.in_ok-copy_blocks.ensures.bytes i (subst (λ n. i < n) c.copy_blocks.ensures.size less))
    (λ i less.
    c.clear_from.ensures.bytes i less
    ∙ ap (λ n. if nat_lt i n then get_or xs i 0 else 0) c.saturating_sub.ensures)
    ∙ ap (λ n. stored_from state c.args.from n) c.copy_blocks.ensures.size
