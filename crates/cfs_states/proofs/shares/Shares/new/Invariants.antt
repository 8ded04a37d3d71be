use Rattle.std.proofs.Common.{◌≡◌, map}
use Rattle.cfs_active.specs.Memory.{words_seen}
use Rattle.cfs_plan.specs.Files.{files_of}
use Rattle.cfs_states.specs.Begins.{begun}
use Rattle.cfs_states.specs.Shares.{share_view}
use Rattle.cfs_states.proofs.shares.Shares.new.Given as goal

abbrev pub invariant-loop-size : goal.invariant-loop-size
invariant-loop-size l =
    map share_view l.of_records.items
    ≡ begun (files_of l.nodes) 0 (map words_seen l.yielded)
