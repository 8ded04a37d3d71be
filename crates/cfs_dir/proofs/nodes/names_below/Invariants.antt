use Rattle.std.proofs.Common.{◌≡◌, ◌+◌, ◌-◌}
use Rattle.std.specs.Prelude.{nat_eq}
use Rattle.std.specs.HashMap.{get}
use Rattle.std.specs.Option.{option_map}
use Rattle.cfs_dir.specs.Rename.{names_below}
use Rattle.cfs_dir.proofs.nodes.names_below.Given as goal

abbrev pub invariant-loop-names : goal.invariant-loop-names
invariant-loop-names l =
    names_below 16 (get nat_eq l.by_number) l.top l.ino
    ≡ option_map (λ names. names + l.names) (names_below (16 - l.names) (get nat_eq l.by_number) l.top l.above)
