use Rattle.cfs_vec.proofs.CellLemmas.{full_popped, popped_none, popped_some}
use Rattle.cfs_vec.proofs.fixed_vec.FixedVec.pop.Goals as goal

pub invariant_of-self : goal.invariant_of-self
invariant_of-self g c = record { full = full_popped c.args.self.now.cells.items c.pop.new.self.items c.pop.result c.pop.ensures.items c.args.self.now.full }

pub returns-in-Some-clause-items : goal.returns-in-Some-clause-items
returns-in-Some-clause-items g c =
    popped_some c.args.self.now.cells.items c.pop.new.self.items c.pop.result c.in-Some.cell c.pop.ensures.items c.in-Some.is c.args.self.now.full

pub returns-in-Some-clause-none : goal.returns-in-Some-clause-none
returns-in-Some-clause-none g c =
    popped_none c.args.self.now.cells.items c.pop.new.self.items c.pop.result c.in-Some.cell c.pop.ensures.items c.in-Some.is c.args.self.now.full
