use Rattle.std.proofs.Common.{◌≡◌, ◌*◌, map, min}
use Rattle.std.specs.List.{range_with_len}
use Rattle.cfs_medium.specs.Store.{byte_in}
use Rattle.cfs_dump.specs.Stores.{blocks_in}
use Rattle.cfs_dump.proofs.stored.stored_bytes.Given as goal

abbrev pub invariant-loop-block : goal.invariant-loop-block
invariant-loop-block l =
    l.file.items
    ≡ map (byte_in l.ino (blocks_in l.bytes)) (range_with_len 0 (min l.size (4096 * l.block)))
