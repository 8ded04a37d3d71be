use Rattle.std.proofs.Common.{◌<◌, ◌≡◌, length, get_or, arith}
use Rattle.std.proofs.lemmas.List.{get_or_read}
use Rattle.cfs_block.proofs.Bits.{setting_more}
use Rattle.cfs_block.proofs.written.set_range.Goals as goal

pub loop-i-preserved : goal.loop-i-preserved
loop-i-preserved c =
    let within : c.loop-i.i < length c.loop-i.written.items = omega arith in
    let word : c.index_mut.result.now ≡ get_or c.loop-i.written.items c.loop-i.i 0 =
    get_or_read c.loop-i.written.items c.loop-i.i c.index_mut.result.now within c.index_mut.ensures.value 0 in
    rw (c.run_of_ones.ensures, word)
    (setting_more c.args.from c.args.to c.args.written.now.items c.loop-i.written.items c.loop-i.i c.saturating_sub-low.result c.min-high.result
    c.loop-i.invariant c.loop-i.auto.i within c.saturating_sub-low.ensures c.min-high.ensures (omega arith))
