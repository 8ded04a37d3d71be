use Rattle.std.proofs.Common.{[], ap, map}
use Rattle.cfs_block.specs.MemoryBlocks.{number_of, seen_of}
use Rattle.cfs_job.specs.Jobs.{job_view}
use Rattle.cfs_inode.specs.New.{stored_world}
use Rattle.cfs_inode.specs.View.{state_view}
use Rattle.cfs_active.specs.Memory.{words_seen}
use Rattle.cfs_active.proofs.Beginnings.{begun, empty_core, is-empty}
use Rattle.cfs_active.proofs.active.ActiveInode.new.Goals as goal

pub invariant_of-result : goal.invariant_of-result
invariant_of-result c =
    let view = job_view words_seen seen_of number_of in record {
      known = ∣ begun c.args.ino 0 (words_seen c.args.size) []
          (state_view words_seen seen_of c.in_ok-state.state) (map view c.new-2.result.items)
          empty_core (stored_world (words_seen c.args.size) []) c.in_ok-state.ensures.view
          (ap (λ js. map view js) c.new-2.ensures.items) c.requires.number c.requires.sized
          (c.in_ok-state.ensures.stands empty_core is-empty) ∣₁;
    }
