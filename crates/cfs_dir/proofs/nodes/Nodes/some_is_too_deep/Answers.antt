use Rattle.std.proofs.Common.{◌∙◌, ap}
use Rattle.std.specs.Prelude.{nat_eq}
use Rattle.std.specs.HashMap.{get}
use Rattle.std.specs.List.{list_any}
use Rattle.cfs_dir.specs.Namespace.{node_of}
use Rattle.cfs_dir.specs.Numbered.{slot_of, slots_of}
use Rattle.cfs_dir.specs.Rename.{node_is_too_deep}
use Rattle.cfs_dir.specs.Table.{holds, nodes_of}
use Rattle.cfs_dir.proofs.Below.{deep-same}
use Rattle.cfs_dir.proofs.Numbers.{get-numbered, list_any-slots_of}
use Rattle.cfs_dir.proofs.nodes.Nodes.some_is_too_deep.Goals as goal

pub returns : goal.returns
returns c =
    let by_number = c.self.inside.by_number in
    let numbers = c.self.inside.numbers.items in
    let deep = holds (node_is_too_deep (get nat_eq c.self.inside.by_number) c.args.top c.args.names) in
    c.some_is_too_deep.ensures
    ∙ ap (λ ns. list_any (λ number. deep (slot_of by_number number)) ns) c.deref.ensures.value
    ∙ list_any-slots_of by_number deep numbers
    ∙ deep-same (get nat_eq by_number) (node_of (nodes_of (slots_of by_number numbers)))
    (get-numbered by_number numbers c.self.invariant) c.args.top c.args.names (slots_of by_number numbers)
    ∙ ap (λ slots. list_any (holds (node_is_too_deep (node_of (nodes_of slots)) c.args.top c.args.names)) slots) c.self.view_is
