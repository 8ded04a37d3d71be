use Rattle.std.proofs.Common.{length}
use Rattle.cfs_block.proofs.MemBlocks.{backed_ranged, backed_torn, write_fails}
use Rattle.cfs_block.proofs.mem_block.MemBlockBlock.write.Goals as goal

pub returns-then-not-step-clause-err : goal.returns-then-not-step-clause-err
returns-then-not-step-clause-err g c =
    rw c.range.ensures
    (write_fails _ c.args.self.now.history c.args.self.now.dirty record { tag = c.args.self.now.durable_tag; bytes = c.args.self.now.durable.items }
    record { tag = c.args.self.now.tag; bytes = c.args.self.now.present.items } c.args.self.now.written.items c.args.self.now.device c.args.from (length c.args.bytes.now)
    c.args.self.now.backed c.requires)

pub invariant_of-self-2 : goal.invariant_of-self-2
invariant_of-self-2 g c = record {
  backed = rw (c.range-2.ensures, c.add.ensures, c.put.ensures)
      (backed_ranged c.args.self.now.history c.args.self.now.dirty record { tag = c.args.self.now.durable_tag; bytes = c.args.self.now.durable.items }
      record { tag = c.args.self.now.tag; bytes = c.args.self.now.present.items } c.args.self.now.written.items c.set_range.new.written.items c.args.from c.args.bytes.now
      c.args.self.now.backed c.requires c.set_range.ensures.size c.set_range.ensures.bits);
}

pub invariant_of-self : goal.invariant_of-self
invariant_of-self g c = record {
  backed = rw (c.range.ensures, c.add.ensures)
      (backed_torn c.args.self.now.history c.args.self.now.dirty record { tag = c.args.self.now.durable_tag; bytes = c.args.self.now.durable.items }
      record { tag = c.args.self.now.tag; bytes = c.args.self.now.present.items } c.args.self.now.written.items c.set_range.new.written.items c.args.from (length c.args.bytes.now)
      c.args.self.now.backed c.requires c.set_range.ensures.size c.set_range.ensures.bits);
}
