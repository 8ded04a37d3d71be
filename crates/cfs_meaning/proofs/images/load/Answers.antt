use Rattle.std.specs.List.{All}
use Rattle.cfs_block.specs.MemoryBlocks.{number_of}
use Rattle.std.specs.Prelude.{map}
use Rattle.cfs_image.specs.Image.{IsNewBlock, IsNewRegion}
use Rattle.cfs_meaning.proofs.Stored.{if-both, loaded-so}
use Rattle.cfs_meaning.proofs.images.load.Goals as goal

pub returns-clause-loaded : goal.returns-clause-loaded
returns-clause-loaded c =
    if-both c.read_image.result (λ m. All IsNewRegion m.regions.items)
    (λ m. All IsNewBlock m.blocks.items) _
    (λ m new_regions new_blocks.
    loaded-so m.regions.items m.blocks.items (map number_of m.blocks.items) new_regions new_blocks
    m.store) c.read_image.ensures.regions c.read_image.ensures.blocks
