use Rattle.std.proofs.Common.{ap, map}
use Rattle.std.proofs.Math.Logic.{∥∥₁_map}
use Rattle.cfs_block.specs.MemoryBlocks.{number_of, seen_of}
use Rattle.cfs_job.specs.Jobs.{job_view}
use Rattle.cfs_inode.specs.New.{stored_world, told_mapped}
use Rattle.cfs_inode.specs.View.{state_view}
use Rattle.cfs_active.specs.Memory.{words_seen}
use Rattle.cfs_active.proofs.Beginnings.{begun}
use Rattle.cfs_active.proofs.active.ActiveInode.loaded.Goals as goal

pub invariant_of-result : goal.invariant_of-result
invariant_of-result c =
    let view = job_view words_seen seen_of number_of in
    let blocks = map (told_mapped seen_of) c.args.blocks.items in record {
      known = ∥∥₁_map c.requires.file (λ f.
          begun c.args.ino c.args.stored (words_seen c.args.size) blocks
          (state_view words_seen seen_of c.in_ok-state.state) (map view c.new.result.items)
          f.0 (stored_world (words_seen c.args.size) blocks) c.in_ok-state.ensures.view
          (ap (λ js. map view js) c.new.ensures.items) c.requires.number c.requires.sized
          (c.in_ok-state.ensures.stands f.0 f.1));
    }
