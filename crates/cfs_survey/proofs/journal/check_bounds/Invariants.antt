use Rattle.std.proofs.Common.{◌≡◌}
use Rattle.std.specs.Prelude.{None}
use Rattle.cfs_image.specs.Checks.{damage_of}
use Rattle.cfs_survey.specs.Faults.{checks_from}
use Rattle.cfs_survey.specs.Journals.{bound_checks}
use Rattle.cfs_survey.proofs.journal.check_bounds.Given as goal

abbrev pub invariant-loop-position : goal.invariant-loop-position
invariant-loop-position l =
    damage_of (checks_from (bound_checks l.at l.journal l.last) 0 l.position) ≡ None
