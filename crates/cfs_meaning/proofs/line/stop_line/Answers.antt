use Rattle.std.proofs.Common.{ap}
use Rattle.cfs_meaning.specs.Drive.{Drive}
use Rattle.cfs_meaning.proofs.Follow.{means_changes, means_follows, means_gives}
use Rattle.cfs_meaning.proofs.line.stop_line.Goals as goal

pub returns : goal.returns
returns c = record {
  means = means_follows
      (means_changes (λ w shows. ap (λ (d : Drive). d.asked) (c.stop.ensures w.drive shows)))
      means_gives;
}
