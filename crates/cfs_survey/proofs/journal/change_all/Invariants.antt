use Rattle.std.proofs.Common.{◌≡◌, map, take}
use Rattle.std.specs.Prelude.{None}
use Rattle.cfs_image.specs.Checks.{damage_of}
use Rattle.cfs_journal.specs.Records.{change_of}
use Rattle.cfs_survey.specs.Faults.{checks_from}
use Rattle.cfs_survey.specs.Journals.{reached, reached_checks}
use Rattle.cfs_survey.specs.SoFar.{places_of, tree_of}
use Rattle.cfs_survey.proofs.ReachedLemmas.{IsSoFar}
use Rattle.cfs_survey.proofs.journal.change_all.Given as goal

abbrev pub invariant-loop-k : goal.invariant-loop-k
invariant-loop-k l = record {
  sound : damage_of
      (checks_from
      (reached_checks l.at l.through (tree_of l.initial.tree) (places_of l.initial.tree)
      (reached l.through l.journal)) 0 l.k) ≡ None;
  so_far : IsSoFar l.at l.through (tree_of l.initial.tree) (places_of l.initial.tree) l.journal l.k
      (tree_of l.tree) (places_of l.tree);
  told : l.changes.items ≡ map change_of (take l.k (reached l.through l.journal));
}
