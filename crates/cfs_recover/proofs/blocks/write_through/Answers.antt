use Rattle.std.proofs.Common.{◌∙◌, get_or, length}
use Rattle.cfs_recover.specs.declared.piece.Piece.{Piece}
use Rattle.cfs_recover.proofs.BlockCalls.{leaves-after, piece-long, same-cause, through-one-more}
use Rattle.cfs_recover.proofs.blocks.write_through.Goals as goal

none : Piece
none = record { at = 0; from = 0; start = 0; end = 0 }

pub returns-in_err-write_block-clause-beside : goal.returns-in_err-write_block-clause-beside
unfolding none
returns-in_err-write_block-clause-beside g c = λ ino request first pieces.
    leaves-after ino request first (c.loop-piece.invariant.beside ino request first pieces)
    (c.write_block.ensures.beside ino request first
    (piece-long ino request first (length c.args.blocks.now)
    (get_or c.args.pieces.now c.loop-piece.piece-index none) c.args.bytes.now
    (c.requires.within c.loop-piece.piece-index none c.loop-piece-test.true)
    (pieces c.loop-piece.piece-index none c.loop-piece-test.true)))

pub returns-in_err-flush_block-clause-beside : goal.returns-in_err-flush_block-clause-beside
unfolding none
returns-in_err-flush_block-clause-beside g c = λ ino request first pieces.
    leaves-after ino request first
    (leaves-after ino request first (c.loop-piece.invariant.beside ino request first pieces)
    (c.write_block.ensures.beside ino request first
    (piece-long ino request first (length c.args.blocks.now)
    (get_or c.args.pieces.now c.loop-piece.piece-index none) c.args.bytes.now
    (c.requires.within c.loop-piece.piece-index none c.loop-piece-test.true)
    (pieces c.loop-piece.piece-index none c.loop-piece-test.true))))
    (c.flush_block.ensures.beside ino request first)

pub loop-piece-preserved : goal.loop-piece-preserved
unfolding none
loop-piece-preserved g c = record {
  so_far = through-one-more c.args.pieces.now c.loop-piece.piece-index none c.args.bytes.now _ _ _
      _ c.loop-piece-test.true c.loop-piece.invariant.so_far c.in_ok-write_block.ensures.ok
      c.in_ok-flush_block.ensures.ok;
  beside = λ ino request first pieces.
      leaves-after ino request first
      (leaves-after ino request first (c.loop-piece.invariant.beside ino request first pieces)
      (c.write_block.ensures.beside ino request first
      (piece-long ino request first (length c.args.blocks.now)
      (get_or c.args.pieces.now c.loop-piece.piece-index none) c.args.bytes.now
      (c.requires.within c.loop-piece.piece-index none c.loop-piece-test.true)
      (pieces c.loop-piece.piece-index none c.loop-piece-test.true))))
      (c.flush_block.ensures.beside ino request first);
  devices = c.flush_block.ensures.devices
      ∙ (c.write_block.ensures.devices ∙ c.loop-piece.invariant.devices);
  numbers = c.flush_block.ensures.numbers
      ∙ (c.write_block.ensures.numbers ∙ c.loop-piece.invariant.numbers);
  counts = c.in_ok-flush_block.ensures.cause.passed
      ∙ (c.in_ok-write_block.ensures.cause.passed ∙ c.loop-piece.invariant.counts);
}

pub returns-clause-cause : goal.returns-clause-cause
returns-clause-cause g c = same-cause _ _ c.loop-piece.invariant.counts
