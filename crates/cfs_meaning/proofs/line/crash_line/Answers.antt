use Rattle.std.proofs.Common.{◌∙◌, ap, sym}
use Rattle.cfs_meaning.specs.Play.{crashed}
use Rattle.cfs_meaning.proofs.Follow.{means_changes, means_follows, means_gives}
use Rattle.cfs_meaning.proofs.line.crash_line.Goals as goal

pub returns : goal.returns
returns c = record {
  means = means_follows
      (means_changes (λ w shows. ap (crashed c.args.k) shows ∙ sym c.crash.ensures)) means_gives;
}
