use Rattle.std.proofs.Common.{ℕ, List, refl, subst}
use Rattle.cfs_top.specs.Outside.{Names, UpgradeIsDue, upgrade_checks}
use Rattle.cfs_top.proofs.Ends.{refused_writes}
use Rattle.cfs_top.proofs.upgrade.upgrade.Goals as goal

pub returns-in-Err-upgrade_soundly-clause-writes : goal.returns-in-Err-upgrade_soundly-clause-writes
returns-in-Err-upgrade_soundly-clause-writes g c =
    refused_writes (UpgradeIsDue (g.H.Shelf.files c.args.shelf.now) c.args.image.now)
    c.in-Err-upgrade_soundly.refusal c.refuse.result (g.K.Sink.written c.args.output.now)
    (g.K.Sink.written c.load.new.output) (g.K.Sink.written c.refuse.new.output)
    c.in-Ok.ensures.unwritten (λ offset found against is. record {
      bytes = c.in-Ok.bytes;
      found = c.in-Ok.ensures.found;
      damage = record { offset = offset; found = found; against = against };
      first = subst (Names (upgrade_checks c.in-Ok.bytes)) is
          (subst (λ (bytes : List ℕ). Names (upgrade_checks bytes) c.in-Err-upgrade_soundly.refusal)
          c.as_slice.ensures c.in-Err-upgrade_soundly.ensures.named);
      is_text = refl;
    }) c.refuse.ensures.said
