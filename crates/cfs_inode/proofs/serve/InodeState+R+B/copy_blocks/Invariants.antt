use Rattle.std.proofs.Common.{◌≡◌, ◌+◌, ◌-◌, ◌*◌, ◌/◌, ◌<◌, [], get_or, length, ℕ}
use Rattle.std.specs.Prelude.{IsTrue}
use Rattle.cfs_file.specs.declared.sizes.TheConstants.{BLOCK_LEN}
use Rattle.cfs_inode.specs.Makes.{CallMakes}
use Rattle.cfs_inode.specs.Serves.{byte_in}
use Rattle.cfs_inode.specs.View.{state_view}
use Rattle.cfs_inode.proofs.ReadSteps.{AreRead}
use Rattle.cfs_inode.proofs.serve.InodeState+R+B.copy_blocks.Given as goal

abbrev pub invariant-loop-block : goal.invariant-loop-block
invariant-loop-block g l =
    let old = state_view g.R.Region.seen g.B.Block.seen l.initial.self in
    let asked = g.P.Power.asked l.initial.power in
    record {
      size : length l.out ≡ length l.initial.out;
      view : state_view g.R.Region.seen g.B.Block.seen l.self ≡ old;
      bytes : (i : ℕ) → i < length l.out → l.from + i < BLOCK_LEN * l.block →
          get_or l.out i 0 ≡ byte_in old.tracker.cells (l.from + i);
      makes : CallMakes [] asked old (g.P.Power.asked l.power) old;
      reads : IsTrue g.B.Block.obeys_power →
          AreRead old.tracker.cells (l.from / BLOCK_LEN) (l.block - l.from / BLOCK_LEN) asked
          (g.P.Power.asked l.power);
    }
