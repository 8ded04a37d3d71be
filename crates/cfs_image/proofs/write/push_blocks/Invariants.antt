use Rattle.std.proofs.Common.{◌≡◌, ◌++◌, All, take}
use Rattle.std.specs.List.{flat_map}
use Rattle.cfs_image.specs.Image.{IsWord, block_bytes, contents_in}
use Rattle.cfs_image.proofs.write.push_blocks.Given as goal

abbrev pub invariant-loop-block : goal.invariant-loop-block
invariant-loop-block l = record {
  image : l.image.items ≡ l.initial.image.items ++ flat_map block_bytes (contents_in (take l.block-index l.blocks));
  fit : All (λ content. IsWord content.tag) (contents_in (take l.block-index l.blocks));
}
