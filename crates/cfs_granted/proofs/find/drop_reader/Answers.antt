use Rattle.std.proofs.Common.{not, rules}
use Rattle.std.proofs.lemmas.Fn.{filter_same}
use Rattle.cfs_granted.specs.Readers.{is_reader_at}
use Rattle.cfs_granted.proofs.find.drop_reader.Goals as goal

pub returns-clause-items : goal.returns-clause-items
returns-clause-items c =
    filter_same _ (λ r. not (is_reader_at c.args.place r)) _ (λ x b f' k. search rules) _ _
    c.retain.ensures.filtered
