use Rattle.std.proofs.Common.{◌∙◌, ap, rules}
use Rattle.cfs_block.specs.Written.{is_set}
use Rattle.cfs_block.proofs.Bits.{is_set-replicate}
use Rattle.cfs_block.proofs.MemBlocks.{backed_began}
use Rattle.cfs_block.proofs.mem_block.MemBlock.new.Goals as goal

pub invariant_of-result : goal.invariant_of-result
invariant_of-result c = record {
  backed = rw (c.of.ensures, c.in-Ok-Ok.ensures.items, c.deref.ensures.value)
      (backed_began c.none.result record { tag = c.args.tag; bytes = c.args.bytes.items } c.in-Ok-Ok.written.items (search rules) (search rules) (search rules) (search rules)
      (λ k. ap (λ bits. is_set bits k) (c.in-Ok-Ok.ensures'.items_if_clones_equal (λ y h. h)) ∙ is_set-replicate 64 k));
}
