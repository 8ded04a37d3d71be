use Rattle.std.proofs.Common.{◌∙◌, ◌++◌, ◌*◌, ◌<◌, ℕ, Option, ap, arith}
use Rattle.std.specs.Option.{option_map}
use Rattle.cfs_dump.specs.Reads.{front_of}
use Rattle.cfs_dump.specs.Stores.{content_in}
use Rattle.cfs_dump.proofs.Blocks.{piece-more}
use Rattle.cfs_dump.proofs.stored.stored_bytes.Goals as goal

pub loop-block-preserved : goal.loop-block-preserved
loop-block-preserved c =
    let less : 4096 * c.loop-block.block < c.args.size =
    omega (arith, c.div_ceil-block-end.ensures, c.loop-block-test.true) in
    piece-more c.args.bytes.now c.args.ino c.args.found.now c.args.size c.loop-block.block
    c.min-len.result c.loop-block.file.items c.push_block.new.file.items c.requires.found less
    c.min-len.ensures
    (c.in_ok-push_block.ensures
    ∙ ap (λ (block : Option ℕ). c.loop-block.file.items
    ++ front_of (option_map (content_in c.args.bytes.now) block) c.min-len.result)
    c.block_for.ensures)
    c.loop-block.invariant
