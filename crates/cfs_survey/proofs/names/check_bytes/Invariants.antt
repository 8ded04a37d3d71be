use Rattle.std.proofs.Common.{◌≡◌, [], ◌∷◌}
use Rattle.std.specs.Prelude.{None}
use Rattle.cfs_image.specs.Checks.{damage_of}
use Rattle.cfs_survey.specs.Faults.{checks_from}
use Rattle.cfs_survey.specs.Fields.{byte_check}
use Rattle.cfs_survey.proofs.names.check_bytes.Given as goal

abbrev pub invariant-loop-k : goal.invariant-loop-k
invariant-loop-k l =
    damage_of (checks_from (λ k. byte_check l.at l.len l.room k ∷ []) 0 l.k) ≡ None
