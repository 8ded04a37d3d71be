use Rattle.std.proofs.Common.{sym}
use Rattle.cfs_extent.proofs.Views.{out_after}
use Rattle.cfs_parts_tests.proofs.extent.put_back.Goals as goal

pub put_back-requires : goal.put_back-requires
put_back-requires c =
    out_after c.args.map.now c.lend-old.new.self c.args.k c.lend-old.result c.lend-old.ensures.block
    c.lend-old.ensures.lent c.lend-old.ensures.unchanged (sym c.if-is_mapped.ensures)
