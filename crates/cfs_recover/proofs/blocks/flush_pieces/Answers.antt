use Rattle.std.proofs.Common.{◌∙◌}
use Rattle.cfs_recover.specs.declared.piece.Piece.{Piece}
use Rattle.cfs_recover.proofs.BlockCalls.{flushed-more, leaves-after, same-cause}
use Rattle.cfs_recover.proofs.blocks.flush_pieces.Goals as goal

pub returns-in_err-flush_block-clause-beside : goal.returns-in_err-flush_block-clause-beside
returns-in_err-flush_block-clause-beside g c = λ ino request first.
    leaves-after ino request first (c.loop-piece.invariant.beside ino request first)
    (c.flush_block.ensures.beside ino request first)

none : Piece
none = record { at = 0; from = 0; start = 0; end = 0 }

pub loop-piece-preserved : goal.loop-piece-preserved
unfolding none
loop-piece-preserved g c = record {
  so_far = flushed-more c.args.pieces.now c.loop-piece.piece-index none _ _ _
      c.loop-piece-test.true c.loop-piece.invariant.so_far c.in_ok-flush_block.ensures.ok;
  beside = λ ino request first.
      leaves-after ino request first (c.loop-piece.invariant.beside ino request first)
      (c.flush_block.ensures.beside ino request first);
  devices = c.flush_block.ensures.devices ∙ c.loop-piece.invariant.devices;
  numbers = c.flush_block.ensures.numbers ∙ c.loop-piece.invariant.numbers;
  counts = c.in_ok-flush_block.ensures.cause.passed ∙ c.loop-piece.invariant.counts;
}

pub returns-clause-cause : goal.returns-clause-cause
returns-clause-cause g c = same-cause _ _ c.loop-piece.invariant.counts
