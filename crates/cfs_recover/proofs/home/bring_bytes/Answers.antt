use Rattle.std.proofs.Common.{map}
use Rattle.cfs_recover.proofs.Begins.{bytes-stop}
use Rattle.cfs_recover.proofs.BlockCalls.{leaves-after}
use Rattle.cfs_recover.proofs.home.bring_bytes.Goals as goal

pub returns-in_err-write_pieces-clause-moments : goal.returns-in_err-write_pieces-clause-moments
returns-in_err-write_pieces-clause-moments g c =
    λ files file at entry rest start first regions begins pieces.
    bytes-stop files file at entry rest start first regions (map g.B.Block.seen c.args.blocks.now)
    (map g.B.Block.seen c.write_pieces.new.blocks) (g.P.Power.asked c.args.power.now)
    (g.P.Power.asked c.write_pieces.new.power) begins
    (c.write_pieces.ensures.beside file.ino entry.1 first.blocks pieces)

pub returns-clause-moments : goal.returns-clause-moments
returns-clause-moments g c =
    λ files file at entry rest start first regions begins pieces.
    bytes-stop files file at entry rest start first regions (map g.B.Block.seen c.args.blocks.now)
    (map g.B.Block.seen c.flush_pieces.new.blocks) (g.P.Power.asked c.args.power.now)
    (g.P.Power.asked c.flush_pieces.new.power) begins
    (leaves-after file.ino entry.1 first.blocks
    (c.write_pieces.ensures.beside file.ino entry.1 first.blocks pieces)
    (c.flush_pieces.ensures.beside file.ino entry.1 first.blocks))
