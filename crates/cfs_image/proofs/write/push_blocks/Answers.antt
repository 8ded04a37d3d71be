use Rattle.std.proofs.Common.{◌∙◌, ◌++◌, List, ℕ, ap, append_assoc, arith}
use Rattle.byteorder.specs.Endian.{little_bytes}
use Rattle.cfs_block.specs.BlockImages.{Content, content_of}
use Rattle.cfs_block.specs.MemoryBlocks.{seen_of}
use Rattle.cfs_block.specs.declared.mem_block.MemBlock.{MemBlock}
use Rattle.cfs_image.specs.Image.{IsWord, block_bytes}
use Rattle.cfs_image.proofs.Writings.{written_more}
use Rattle.cfs_image.proofs.write.push_blocks.Goals as goal

pub loop-block-preserved : goal.loop-block-preserved
loop-block-preserved c =
    let before : List ℕ = c.loop-block.image.items in
    let bytes : List ℕ = c.bytes.result.now in
    let content : Content = content_of (seen_of c.block-item.result) in
    let fits : IsWord content.tag = omega (arith, c.tag_word.ensures, c.tag_word.type_inv) in
    let more = written_more block_bytes (λ (b : MemBlock). content_of (seen_of b)) (λ b. IsWord b.tag) c.args.blocks.now c.loop-block.block-index c.block-item.result
    c.args.image.now.items before c.extend_from_slice-in-loop-block.new.self.items (omega arith) c.block-item.is c.loop-block.invariant.image
    (c.in_ok-extend_from_slice-2.ensures.items ∙ ap (λ bs. bs ++ bytes) c.in_ok-extend_from_slice.ensures.items
    ∙ append_assoc before c.to_le_bytes.result bytes
    ∙ ap (λ bs. before ++ (bs ++ bytes)) c.to_le_bytes.ensures
    ∙ ap (λ (tag : ℕ). before ++ (little_bytes 8 tag ++ bytes)) c.tag_word.ensures
    ∙ ap (λ bs. before ++ (little_bytes 8 content.tag ++ bs)) c.bytes.ensures)
    c.loop-block.invariant.fit fits in
    record { image = more.0; fit = more.1 }
