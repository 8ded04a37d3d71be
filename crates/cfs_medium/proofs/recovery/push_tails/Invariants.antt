use Rattle.std.proofs.Common.{◌≡◌, ◌++◌, ◌-◌}
use Rattle.std.specs.List.{flat_map}
use Rattle.cfs_slot.specs.Words.{area_of}
use Rattle.cfs_slot.specs.Tails.{tails_at}
use Rattle.cfs_medium.proofs.Tails.{tails_from}
use Rattle.cfs_medium.proofs.recovery.push_tails.Given as goal

abbrev pub invariant-loop-number : goal.invariant-loop-number
invariant-loop-number l =
    l.bytes.items ++ tails_from l.slots l.first (16 - l.number) l.number l.tails
    ≡ l.fn.bytes.items ++ flat_map area_of (tails_at l.slots l.at)
