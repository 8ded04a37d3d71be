use Rattle.std.proofs.Common.{ap, get_or, map, subst, sym, List, ℕ}
use Rattle.cfs_block.specs.MemoryBlocks.{seen_of}
use Rattle.cfs_inode.specs.New.{AreMapped, MappedSeen, told_mapped}
use Rattle.cfs_active.specs.Memory.{words_seen}
use Rattle.cfs_states.proofs.Orders.{in-order, loadable-as, loaded-same}
use Rattle.cfs_states.proofs.load.load_file.Goals as goal

pub loaded-requires-clause-stored : goal.loaded-requires-clause-stored
loaded-requires-clause-stored c =
    let same = in-order c.args.ino c.args.blocks.items c.sort_blocks.new.blocks.items
    c.requires.ordered c.sort_blocks.ensures.same c.sort_blocks.ensures.ascending c.requires.is in
    record {
      sure = c.requires.sure;
      size_is = sym (ap (λ (ws : List ℕ). get_or ws 0 0) c.words.ensures);
      mapped = subst (λ (l : List MappedSeen). AreMapped c.args.ino 0 l) (sym same)
          c.requires.is.0;
    }

pub loaded-requires-clause-file : goal.loaded-requires-clause-file
loaded-requires-clause-file c =
    loadable-as (words_seen c.args.size) c.words.result.now
    (map (told_mapped seen_of) c.sort_blocks.new.blocks.items) c.requires.ordered c.words.ensures
    (in-order c.args.ino c.args.blocks.items c.sort_blocks.new.blocks.items
    c.requires.ordered c.sort_blocks.ensures.same c.sort_blocks.ensures.ascending c.requires.is)
    c.requires.file

pub returns-in-Ok : goal.returns-in-Ok
returns-in-Ok c = λ ordered is.
    loaded-same c.args.ino (words_seen c.args.size) c.words.result.now
    (map (told_mapped seen_of) c.sort_blocks.new.blocks.items) ordered _ c.in-Ok.ensures.view
    c.words.ensures
    (in-order c.args.ino c.args.blocks.items c.sort_blocks.new.blocks.items
    ordered c.sort_blocks.ensures.same c.sort_blocks.ensures.ascending is)
