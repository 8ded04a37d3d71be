use Rattle.std.proofs.Common.{◌∙◌, ap}
use Rattle.std.specs.Prelude.{nat_eq}
use Rattle.std.specs.HashMap.{get}
use Rattle.cfs_dir.specs.Namespace.{node_of}
use Rattle.cfs_dir.specs.Numbered.{slots_of}
use Rattle.cfs_dir.specs.Rename.{names_below}
use Rattle.cfs_dir.specs.Table.{nodes_of}
use Rattle.cfs_dir.proofs.Below.{below-same}
use Rattle.cfs_dir.proofs.Numbers.{get-numbered}
use Rattle.cfs_dir.proofs.nodes.Nodes.names_below.Goals as goal

pub returns : goal.returns
returns c =
    c.names_below.ensures
    ∙ below-same (get nat_eq c.self.inside.by_number) (node_of (nodes_of (slots_of c.self.inside.by_number c.self.inside.numbers.items)))
    (get-numbered c.self.inside.by_number c.self.inside.numbers.items c.self.invariant) 16 c.args.top c.args.ino
    ∙ ap (λ slots. names_below 16 (node_of (nodes_of slots)) c.args.top c.args.ino) c.self.view_is
