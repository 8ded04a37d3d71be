use Rattle.std.proofs.Common.{not, rules}
use Rattle.std.proofs.lemmas.Fn.{filter_same}
use Rattle.cfs_tracker.specs.View.{is_at}
use Rattle.cfs_tracker.proofs.find.drop_entry.Goals as goal

pub returns-clause-items : goal.returns-clause-items
returns-clause-items g c = filter_same _ (λ e. not (is_at c.args.place e)) _ (λ x b f' k. search rules) _ _ c.retain.ensures.filtered
