use Rattle.std.proofs.Common.{ℕ, Option, ◌+◌, ◌-◌, ◌/◌, ◌∙◌, ◌++◌, ap, arith}
use Rattle.std.specs.Option.{option_map, option_to_list}
use Rattle.cfs_recover.specs.declared.piece.Piece.{Piece}
use Rattle.cfs_recover.specs.Cut.{piece_in}
use Rattle.cfs_replay.specs.Pieces.{found_at, write_pieces}
use Rattle.cfs_replay.proofs.Cutting.{pieces-more}
use Rattle.cfs_replay.proofs.pieces.write_pieces.Goals as goal

pub loop-block-preserved : goal.loop-block-preserved
loop-block-preserved c = record {
  parts = pieces-more (λ (block : ℕ). option_map (λ at. piece_in at block c.args.offset c.args.len)
      (found_at c.args.found.now c.args.ino block))
      ((c.args.offset + c.args.len + 4095) / 4096 - c.loop-block.block)
      ((c.args.offset + c.args.len + 4095) / 4096 - (c.loop-block.block + 1))
      c.loop-block.block c.loop-block.pieces.items c.note_piece.new.pieces.items
      (write_pieces c.args.found.now c.args.ino c.args.offset c.args.len) (omega arith)
      c.loop-block.invariant.parts
      (c.note_piece.ensures.items
      ∙ ap (λ (o : Option Piece). c.loop-block.pieces.items ++ option_to_list o)
      c.piece_of_write.ensures);
  few = omega arith;
}
