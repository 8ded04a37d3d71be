use Rattle.cfs_fake.proofs.tests.two_passes.Goals as goal

pub new-requires-2-clause-unused : goal.new-requires-2-clause-unused
new-requires-2-clause-unused c = c.new.ensures.new 2
