use Rattle.std.proofs.Common.{not, rules}
use Rattle.std.proofs.lemmas.Fn.{filter_same}
use Rattle.cfs_tracker.specs.View.{is_read_at}
use Rattle.cfs_tracker.proofs.find.drop_read.Goals as goal

pub returns-clause-items : goal.returns-clause-items
returns-clause-items c = filter_same _ (λ r. not (is_read_at c.args.place r)) _ (λ x b f' k. search rules) _ _ c.retain.ensures.filtered
