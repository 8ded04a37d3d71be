use Rattle.cfs_script.proofs.Progress.{Progress}
use Rattle.cfs_script.proofs.read.read_script.Given as goal

abbrev pub invariant-texts : goal.invariant-texts
invariant-texts l =
    (goal.iterator-texts).can_next l.text-iterator ×
    (goal.iterator-texts).is_finite l.text-iterator ×
    Progress l.command l.bytes l.number l.lines.items l.seen l.text-iterator
