use Rattle.std.proofs.Common.{arith, refl}
use Rattle.std.proofs.lemmas.List.{nil_from_length}
use Rattle.cfs_core.proofs.Freshly.{fresh-empty}
use Rattle.cfs_core.proofs.inode_core.Core.empty.Goals as goal

pub returns-clause-fresh : goal.returns-clause-fresh
returns-clause-fresh c = fresh-empty _ (record {
  base = nil_from_length _ c.new.ensures;
  log = c.new-2.ensures;
  tracks = c.new-3.ensures;
  doubt = refl;
  size = refl;
  sizes = c.new-4.ensures;
  blocks = omega arith;
  tags = c.loop-block.invariant.off;
  bytes = nil_from_length _ c.new-5.ensures;
  loose = c.new-6.ensures;
  up = refl;
})
