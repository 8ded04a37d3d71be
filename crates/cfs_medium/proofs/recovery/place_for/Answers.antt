use Rattle.std.proofs.Common.{◌∙◌, ap, length, nat_le}
use Rattle.std.specs.Prelude.{unwrap_or}
use Rattle.cfs_medium.proofs.Insertion.{unwrap_or-position}
use Rattle.cfs_medium.proofs.recovery.place_for.Goals as goal

pub returns-clause-place : goal.returns-clause-place
returns-clause-place c =
    c.unwrap_or.ensures ∙ (ap (λ o. unwrap_or o (length c.args.entries.now)) c.first_not_less.ensures
    ∙ unwrap_or-position (λ e. nat_le c.args.gate e.0) c.args.entries.now)
