use Rattle.std.proofs.Common.{◌∙◌, ap}
use Rattle.std.specs.List.{list_any}
use Rattle.cfs_dir.specs.Numbered.{slot_of}
use Rattle.cfs_dir.specs.Table.{stands_in}
use Rattle.cfs_dir.proofs.Numbers.{list_any-slots_of}
use Rattle.cfs_dir.proofs.nodes.Nodes.some_stands_in.Goals as goal

pub returns : goal.returns
returns c =
    c.some_stands_in.ensures
    ∙ ap (λ numbers. list_any (λ number. stands_in c.args.parent (slot_of c.self.inside.by_number number)) numbers) c.deref.ensures.value
    ∙ list_any-slots_of c.self.inside.by_number (stands_in c.args.parent) c.self.inside.numbers.items
    ∙ ap (λ slots. list_any (stands_in c.args.parent) slots) c.self.view_is
