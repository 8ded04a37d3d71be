use Rattle.std.proofs.Common.{◌≡◌}
use Rattle.std.specs.Prelude.{filter}
use Rattle.std.specs.List.{range_with_len}
use Rattle.cfs_plan.specs.Files.{files_of}
use Rattle.cfs_plan.specs.Lists.{is_leftover}
use Rattle.cfs_plan.proofs.emptied.leftover_records.Given as goal

abbrev pub invariant-loop-rec : goal.invariant-loop-rec
invariant-loop-rec l =
    l.left.items
    ≡ filter (λ rec. is_leftover (files_of l.nodes) l.sizes rec) (range_with_len 0 l.rec)
