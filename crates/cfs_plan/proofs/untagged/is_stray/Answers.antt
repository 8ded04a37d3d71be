use Rattle.std.proofs.Common.{◌∙◌, ap}
use Rattle.std.specs.Prelude.{not}
use Rattle.cfs_plan.proofs.Filters.{stray-tag}
use Rattle.cfs_plan.proofs.untagged.is_stray.Goals as goal

pub returns-then-tag-ne0 : goal.returns-then-tag-ne0
returns-then-tag-ne0 c = λ files has.
    ap not c.contains_key.ensures
    ∙ stray-tag files c.args.records.now c.args.tag has c.if-tag-ne0.true
