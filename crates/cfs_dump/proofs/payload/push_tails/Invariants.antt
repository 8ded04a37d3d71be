use Rattle.std.proofs.Common.{◌≡◌, ◌++◌, ◌-◌}
use Rattle.std.specs.List.{flat_map}
use Rattle.cfs_slot.specs.Words.{area_of}
use Rattle.cfs_dump.specs.Reads.{tails_in}
use Rattle.cfs_dump.specs.Stores.{slots_in}
use Rattle.cfs_dump.proofs.Tails.{tails_from}
use Rattle.cfs_dump.proofs.payload.push_tails.Given as goal

abbrev pub invariant-loop-number : goal.invariant-loop-number
invariant-loop-number l =
    l.payload.items ++ tails_from (slots_in l.bytes) l.first (16 - l.number) l.number l.rest
    ≡ l.fn.payload.items ++ flat_map area_of (tails_in l.bytes l.slot l.tails)
