use Rattle.std.proofs.Common.{◌∙◌, ap, length, nat_lt, not}
use Rattle.std.specs.Prelude.{unwrap_or}
use Rattle.cfs_survey.proofs.PlacedLemmas.{unwrap_or-position}
use Rattle.cfs_survey.proofs.tree_so_far.index_for.Goals as goal

pub returns-clause-index : goal.returns-clause-index
returns-clause-index c =
    c.unwrap_or.ensures ∙ (ap (λ o. unwrap_or o (length c.args.nodes.now)) c.first_not_below.ensures
    ∙ unwrap_or-position (λ node. not (nat_lt node.rec c.args.rec)) c.args.nodes.now)
