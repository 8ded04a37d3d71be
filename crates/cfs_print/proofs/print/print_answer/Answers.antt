use Rattle.std.proofs.Common.{refl}
use Rattle.std.specs.Prelude.{codes}
use Rattle.cfs_print.proofs.Parts.{added, one_number, two_numbers, three_numbers}
use Rattle.cfs_print.proofs.print.print_answer.Goals as goal

pub returns-in_ok-write-in-Unfinished : goal.returns-in_ok-write-in-Unfinished
returns-in_ok-write-in-Unfinished c = added _ _ _ _ _ c.in-Unfinished.is (one_number (codes "unfinished left=") c.in-Unfinished.blocks) c.in_ok-write-in-Unfinished.ensures.bytes

pub returns-in_ok-write-in-Freed : goal.returns-in_ok-write-in-Freed
returns-in_ok-write-in-Freed c = added _ _ _ _ _ c.in-Freed.is (one_number (codes "ok freed=") c.in-Freed.blocks) c.in_ok-write-in-Freed.ensures.bytes

pub returns-in_ok-write-in-Drained : goal.returns-in_ok-write-in-Drained
returns-in_ok-write-in-Drained c = added _ _ _ _ _ c.in-Drained.is (two_numbers (codes "ok turns=") (codes " freed=") c.in-Drained.turns c.in-Drained.blocks) c.in_ok-write-in-Drained.ensures.bytes

pub returns-in_ok-write-in-Replayed : goal.returns-in_ok-write-in-Replayed
returns-in_ok-write-in-Replayed c = added _ _ _ _ _ c.in-Replayed.is (one_number (codes "ok replayed=") c.in-Replayed.entries) c.in_ok-write-in-Replayed.ensures.bytes

pub returns-in_ok-write-in-NoQueue : goal.returns-in_ok-write-in-NoQueue
returns-in_ok-write-in-NoQueue c = added _ _ _ _ _ c.in-NoQueue.is (one_number (codes "EMFILE queues=") c.in-NoQueue.queues) c.in_ok-write-in-NoQueue.ensures.bytes

pub returns-in_ok-push_str-in-NoRecord : goal.returns-in_ok-push_str-in-NoRecord
returns-in_ok-push_str-in-NoRecord c = added _ _ _ _ _ c.in-NoRecord.is refl c.in_ok-push_str-in-NoRecord.ensures.bytes

pub returns-in_ok-push_str-in-NoNumber : goal.returns-in_ok-push_str-in-NoNumber
returns-in_ok-push_str-in-NoNumber c = added _ _ _ _ _ c.in-NoNumber.is refl c.in_ok-push_str-in-NoNumber.ensures.bytes

pub returns-in_ok-write-in-Short : goal.returns-in_ok-write-in-Short
returns-in_ok-write-in-Short c = added _ _ _ _ _ c.in-Short.is (two_numbers (codes "ENOSPC need=") (codes " free=") c.in-Short.need c.in-Short.free) c.in_ok-write-in-Short.ensures.bytes

pub returns-in_ok-write-in-Pending : goal.returns-in_ok-write-in-Pending
returns-in_ok-write-in-Pending c = added _ _ _ _ _ c.in-Pending.is (one_number (codes "pending on=") c.in-Pending.on) c.in_ok-write-in-Pending.ensures.bytes

pub returns-in_ok-write-in-PendingRead : goal.returns-in_ok-write-in-PendingRead
returns-in_ok-write-in-PendingRead c = added _ _ _ _ _ c.in-PendingRead.is (three_numbers (codes "pending ino=") (codes " place=") (codes " on=") c.in-PendingRead.ino c.in-PendingRead.place c.in-PendingRead.on) c.in_ok-write-in-PendingRead.ensures.bytes

pub returns-in_ok-push_str-in-Unmounted : goal.returns-in_ok-push_str-in-Unmounted
returns-in_ok-push_str-in-Unmounted c = added _ _ _ _ _ c.in-Unmounted.is refl c.in_ok-push_str-in-Unmounted.ensures.bytes
