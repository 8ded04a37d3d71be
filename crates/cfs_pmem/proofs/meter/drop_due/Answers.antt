use Rattle.std.proofs.Common.{not, rules}
use Rattle.std.proofs.lemmas.Fn.{filter_same}
use Rattle.cfs_pmem.specs.Meter.{is_due}
use Rattle.cfs_pmem.proofs.meter.drop_due.Goals as goal

pub returns : goal.returns
returns c = filter_same _ (λ plan. not (is_due c.args.device c.args.writing plan)) _ (λ x b f' k. search rules) _ _ c.retain.ensures.filtered
