use Rattle.std.proofs.Common.{map}
use Rattle.cfs_recover.proofs.Begins.{bytes-stop}
use Rattle.cfs_recover.proofs.home.bring_through.Goals as goal

pub returns-clause-moments : goal.returns-clause-moments
returns-clause-moments g c =
    λ files file at entry rest start first regions begins pieces.
    bytes-stop files file at entry rest start first regions (map g.B.Block.seen c.args.blocks.now)
    (map g.B.Block.seen c.write_through.new.blocks) (g.P.Power.asked c.args.power.now)
    (g.P.Power.asked c.write_through.new.power) begins
    (c.write_through.ensures.beside file.ino entry.1 first.blocks pieces)
