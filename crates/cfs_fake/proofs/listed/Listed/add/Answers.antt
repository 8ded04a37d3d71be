use Rattle.std.proofs.Common.{refl}
use Rattle.cfs_fake.proofs.Listing.{grew}
use Rattle.cfs_fake.proofs.listed.Listed.add.Goals as goal

pub returns-clause-grows : goal.returns-clause-grows
returns-clause-grows c = grew c.args.by c.args.word c.args.self.now _ c.in_ok-push.ensures.items refl
