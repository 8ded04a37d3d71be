use Rattle.std.proofs.Common.{◌≡◌, ◌<◌, ◌++◌, ◌∙◌, ℕ, List, length, take, drop, map, get_or, ap, subst, arith}
use Rattle.std.proofs.lemmas.List.{get_or_default, length-map, take_at}
use Rattle.cfs_block.specs.BlockImages.{IsBlockImage, content_of}
use Rattle.cfs_block.specs.MemoryBlocks.{seen_of, number_of, faults_of}
use Rattle.cfs_block.specs.declared.mem_block.MemBlock.{MemBlock}
use Rattle.cfs_image.specs.Crash.{block_left_of, after_block_of}
use Rattle.cfs_image.proofs.Crashing.{crash_more, kept_more}
use Rattle.cfs_image.proofs.crash.crash_blocks.Goals as goal

pub loop-block-preserved : goal.loop-block-preserved
loop-block-preserved c =
    let items : List MemBlock = c.loop-block.block-items in
    let i : ℕ = c.loop-block.block-index in
    let x : MemBlock = get_or items i c.block-item.result in
    let within : i < length items = omega arith in
    let size : length items ≡ length (map seen_of c.deref_mut-block-items.result.now) =
    omega (arith, length-map c.deref_mut-block-items.result.now seen_of) in
    let more = crash_more seen_of block_left_of after_block_of (λ s t. IsBlockImage s.history (content_of t))
    c.args.pick.now (map seen_of c.deref_mut-block-items.result.now) c.loop-block.pick c.crash.new.pick items i x c.crash.new.self
    c.loop-block.invariant.left within size (get_or_default items i x c.block-item.result within)
    c.crash.ensures.left c.crash.ensures.pick c.crash.ensures.image c.loop-block.invariant.images in
    record {
      left = more.0;
      images = more.1;
      numbers = kept_more number_of items i c.block-item.result c.crash.new.self within c.crash.ensures.number ∙ c.loop-block.invariant.numbers;
      faults = kept_more faults_of items i c.block-item.result c.crash.new.self within c.crash.ensures.faults ∙ c.loop-block.invariant.faults;
    }

pub returns-clause-images : goal.returns-clause-images
returns-clause-images c = λ k d e l.
    let items = c.loop-block.block-items in
    let old = c.args.blocks.now.items in
    let whole : take c.args.blocks.now.len (items ++ drop (length items) old) ≡ items = take_at items (drop (length items) old) c.args.blocks.now.len (omega arith) in
    let below : k < c.loop-block.block-index = omega (arith, length-map old seen_of, ap (λ xs. length xs) c.deref_mut-block-items.ensures.value) in
    rw whole
    (subst (λ xs. IsBlockImage (get_or (map seen_of xs) k d).history (content_of (get_or (map seen_of items) k e)))
    c.deref_mut-block-items.ensures.value (c.loop-block.invariant.images k d e below))
