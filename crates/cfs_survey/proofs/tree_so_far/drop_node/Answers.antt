use Rattle.std.proofs.Common.{not, rules}
use Rattle.std.specs.Prelude.{◌==◌}
use Rattle.std.proofs.lemmas.Fn.{filter_same}
use Rattle.cfs_survey.proofs.tree_so_far.drop_node.Goals as goal

pub returns : goal.returns
returns c =
    filter_same _ (λ node. not (node.rec == c.args.rec)) _ (λ x b f' k. search rules) _ _
    c.retain.ensures.filtered
