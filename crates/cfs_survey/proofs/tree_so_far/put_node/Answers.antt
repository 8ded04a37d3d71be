use Rattle.std.proofs.Common.{◌≡◌, ◌∙◌, ℕ, ap, nat_lt, not}
use Rattle.std.specs.Prelude.{insert}
use Rattle.std.specs.List.{position_or_len}
use Rattle.cfs_survey.proofs.PlacedLemmas.{insert-placed}
use Rattle.cfs_survey.proofs.tree_so_far.put_node.Goals as goal

pub returns : goal.returns
returns c =
    let place : c.index_for-at.result
    ≡ position_or_len (λ node. not (nat_lt node.rec c.args.node.rec)) c.args.nodes.now.items =
    rw c.deref.ensures.value at c.index_for-at.ensures.index in
    c.in_ok-insert.ensures.items
    ∙ (ap (λ (i : ℕ). insert c.args.nodes.now.items i c.args.node) place
    ∙ insert-placed c.args.node c.args.nodes.now.items)
