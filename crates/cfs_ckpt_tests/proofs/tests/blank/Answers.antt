use Rattle.std.proofs.Common.{ℕ, refl}
use Rattle.std.proofs.lemmas.List.{length-replicate}
use Rattle.cfs_ckpt.proofs.Fresh.{fresh_regions}
use Rattle.cfs_ckpt_tests.proofs.tests.blank.Goals as goal

pub blank-requires : goal.blank-requires
blank-requires c =
    fresh_regions c.in_ok-selector.selector c.in_ok-first.first c.in_ok-second.second c.in_ok-selector.ensures refl
    c.in_ok-tables.ensures.items c.in_ok-first.ensures c.in_ok-second.ensures
    (length-replicate {A = ℕ} 3073 0) (length-replicate {A = ℕ} 3073 0)
