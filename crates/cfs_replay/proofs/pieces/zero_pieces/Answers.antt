use Rattle.std.proofs.Common.{ℕ, Option, ◌+◌, ◌-◌, ◌∙◌, ◌++◌, ap, arith}
use Rattle.std.specs.Option.{option_map, option_to_list}
use Rattle.cfs_recover.specs.declared.piece.Piece.{Piece}
use Rattle.cfs_recover.specs.Cut.{zeros_in}
use Rattle.cfs_replay.specs.Pieces.{found_at, zero_pieces}
use Rattle.cfs_replay.proofs.Cutting.{pieces-more}
use Rattle.cfs_replay.proofs.pieces.zero_pieces.Goals as goal

pub loop-block-preserved : goal.loop-block-preserved
loop-block-preserved c = record {
  parts = pieces-more (λ (block : ℕ). option_map (λ at. zeros_in at block c.args.len)
      (found_at c.args.found.now c.args.ino block))
      (256 - c.loop-block.block)
      (256 - (c.loop-block.block + 1))
      c.loop-block.block c.loop-block.pieces.items c.note_piece.new.pieces.items
      (zero_pieces c.args.found.now c.args.ino c.args.len) (omega arith)
      c.loop-block.invariant.parts
      (c.note_piece.ensures.items
      ∙ ap (λ (o : Option Piece). c.loop-block.pieces.items ++ option_to_list o)
      c.piece_of_zeros.ensures);
  few = omega arith;
}
