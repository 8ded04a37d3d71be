use Rattle.std.proofs.Common.{map}
use Rattle.cfs_block.specs.MemoryBlocks.{seen_of}
use Rattle.cfs_active.specs.Memory.{words_seen}
use Rattle.cfs_active.specs.View.{active_view}
use Rattle.cfs_inode.specs.New.{told_mapped}
use Rattle.cfs_granted.proofs.Lendings.{stored-lent}
use Rattle.cfs_granted.proofs.file_state.FileState.loaded.Goals as goal

pub ungranted-requires-clause-none : goal.ungranted-requires-clause-none
ungranted-requires-clause-none c =
    stored-lent c.args.ino c.args.stored (words_seen c.args.size)
    (map (told_mapped seen_of) c.args.blocks.items) (active_view c.in_ok-active.active)
    c.in_ok-active.ensures.view
