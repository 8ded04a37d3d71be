use Rattle.std.proofs.Common.{◌∙◌, ap, length, not}
use Rattle.std.specs.Prelude.{unwrap_or}
use Rattle.cfs_survey.specs.Live.{is_before}
use Rattle.cfs_survey.proofs.LiveLemmas.{position-live}
use Rattle.cfs_survey.proofs.slots.index_for.Goals as goal

pub returns-clause-index : goal.returns-clause-index
returns-clause-index c =
    c.unwrap_or.ensures ∙ (ap (λ o. unwrap_or o (length c.args.entries.now)) c.first_behind.ensures
    ∙ position-live (λ other. not (is_before other c.args.entry.now)) c.args.entries.now)
