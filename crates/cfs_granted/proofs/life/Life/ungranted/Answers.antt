use Rattle.cfs_granted.proofs.life.Life.ungranted.Goals as goal

pub invariant_of-result-clause-lent : goal.invariant_of-result-clause-lent
invariant_of-result-clause-lent c = c.requires.none
