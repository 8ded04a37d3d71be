use Rattle.cfs_active.specs.Memory.{words_seen}
use Rattle.cfs_block.specs.MemoryBlocks.{seen_of}
use Rattle.cfs_gather.proofs.WordForWord.{finds_all}
use Rattle.cfs_gather.proofs.all.gather.Goals as goal

pub returns-clause-found_regions : goal.returns-clause-found_regions
returns-clause-found_regions c =
    finds_all words_seen _ c.in_ok-gathered.gathered.regions.items
    _ c.in_ok-gathered.ensures.regions
    c.sort_regions.ensures.same c.sort_regions.ensures.ascending

pub returns-clause-found_blocks : goal.returns-clause-found_blocks
returns-clause-found_blocks c =
    finds_all seen_of _ _
    _ c.in_ok-gathered.ensures.blocks
    c.sort_blocks.ensures.same c.sort_blocks.ensures.ascending
