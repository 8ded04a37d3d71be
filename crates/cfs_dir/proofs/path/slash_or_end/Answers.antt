use Rattle.std.proofs.Common.{◌∙◌, ap, length}
use Rattle.std.specs.Prelude.{unwrap_or}
use Rattle.cfs_dir.proofs.Reading.{unwrap_or-position}
use Rattle.cfs_dir.proofs.path.slash_or_end.Goals as goal

pub returns-clause-place : goal.returns-clause-place
returns-clause-place c =
    c.unwrap_or.ensures ∙ ap (λ o. unwrap_or o (length c.args.bytes.now)) c.first_slash.ensures ∙ unwrap_or-position c.args.bytes.now
