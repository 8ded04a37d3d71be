use Rattle.std.proofs.Common.{arith, ◌≡◌, ◌∙◌, get_or, ap, subst, sym}
use Rattle.cfs_pmem.specs.Images as regions
use Rattle.cfs_pmem.proofs.ImageLemmas as region_lemmas
use Rattle.cfs_block.specs.BlockImages as blocks
use Rattle.cfs_block.specs.MemoryBlocks.{seen_of}
use Rattle.cfs_block.specs.declared.mem_block.MemBlock.{MemBlock}
use Rattle.cfs_block.proofs.BlockLemmas as block_lemmas
use Rattle.cfs_image.specs.Image.{contents_in, words_in}
use Rattle.cfs_image.proofs.HeldLemmas.{held_by}
use Rattle.cfs_image.proofs.Readings.{IsAllOf, all_read}
use Rattle.cfs_image.proofs.Standing.{images-tell}
use Rattle.cfs_image.proofs.read.read_image.Goals as goal

pub invariant_of-result : goal.invariant_of-result
invariant_of-result c =
    let all : IsAllOf c.args.bytes.now c.in_ok-regions.regions.items c.in_ok-blocks.blocks.items =
    all_read c.args.bytes.now c.in_ok-regions.regions.items c.in_ok-blocks.blocks.items c.region_count.result c.in_ok-size.size.queues c.in_ok-size.size.blocks
    c.region_count.ensures c.in_ok-size.ensures.queues c.in_ok-size.ensures.blocks (λ k. omega (arith, c.type_inv.bytes k)) c.in_ok-size.ensures.sound c.in_ok-regions.ensures c.in_ok-blocks.ensures in
    record { store = all.store }

pub returns-clause-image : goal.returns-clause-image
returns-clause-image c =
    let all : IsAllOf c.args.bytes.now c.in_ok-regions.regions.items c.in_ok-blocks.blocks.items =
    all_read c.args.bytes.now c.in_ok-regions.regions.items c.in_ok-blocks.blocks.items c.region_count.result c.in_ok-size.size.queues c.in_ok-size.size.blocks
    c.region_count.ensures c.in_ok-size.ensures.queues c.in_ok-size.ensures.blocks (λ k. omega (arith, c.type_inv.bytes k)) c.in_ok-size.ensures.sound c.in_ok-regions.ensures c.in_ok-blocks.ensures in
    all.image

pub returns-clause-sure : goal.returns-clause-sure
returns-clause-sure c = λ k d l.
    let region : regions.MemoryRegion = get_or c.in_ok-regions.regions.items k d in
    let new : region.seen ≡ regions.began region.seen.device (regions.words_of region.seen) = ap (λ (r : regions.MemoryRegion). r.seen) (c.in_ok-regions.ensures.untouched k d l) in
    subst (λ seen. regions.IsSure seen) (sym new) (region_lemmas.sure_began region.seen.device (regions.words_of region.seen))

pub returns-clause-sure_blocks : goal.returns-clause-sure_blocks
returns-clause-sure_blocks c = λ k d l.
    let block : MemBlock = get_or c.in_ok-blocks.blocks.items k d in
    let new : seen_of block ≡ blocks.began (seen_of block).device (blocks.content_of (seen_of block)) = (c.in_ok-blocks.ensures.untouched k d l).0 in
    subst (λ seen. blocks.IsSureBlock seen) (sym new) (block_lemmas.sure_began (seen_of block).device (blocks.content_of (seen_of block)))

pub returns-clause-tells : goal.returns-clause-tells
returns-clause-tells c = λ others other_blocks held same.
    let all : IsAllOf c.args.bytes.now c.in_ok-regions.regions.items c.in_ok-blocks.blocks.items =
    all_read c.args.bytes.now c.in_ok-regions.regions.items c.in_ok-blocks.blocks.items c.region_count.result c.in_ok-size.size.queues c.in_ok-size.size.blocks
    c.region_count.ensures c.in_ok-size.ensures.queues c.in_ok-size.ensures.blocks (λ k. omega (arith, c.type_inv.bytes k)) c.in_ok-size.ensures.sound c.in_ok-regions.ensures c.in_ok-blocks.ensures in
    images-tell others (words_in c.in_ok-regions.regions.items) other_blocks (contents_in c.in_ok-blocks.blocks.items) held
    (held_by c.in_ok-regions.regions.items c.in_ok-blocks.blocks.items all.store c.in_ok-regions.ensures.fit c.in_ok-blocks.ensures.fit) (same ∙ sym all.image)
