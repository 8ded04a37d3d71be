use Rattle.std.proofs.Common.{◌+◌}
use Rattle.cfs_recover.proofs.BlockCalls.{cause-of}
use Rattle.cfs_replay.proofs.ReadCalls.{leaves-of}
use Rattle.cfs_replay.proofs.reading.read_found.Goals as goal

pub returns-clause-leaves : goal.returns-clause-leaves
returns-clause-leaves g c =
    leaves-of g.R.Region.seen c.args.regions.now (323 + c.args.slot) c.index-regions-slot.result
    c.found.new.region c.requires.place c.requires.distinct c.found.ensures.seen
    c.found.ensures.moments

pub returns-clause-cause : goal.returns-clause-cause
returns-clause-cause g c =
    cause-of g.R.Region.faults c.args.regions.now (323 + c.args.slot) c.index-regions-slot.result
    c.found.new.region c.found.result c.requires.place c.found.ensures.cause
