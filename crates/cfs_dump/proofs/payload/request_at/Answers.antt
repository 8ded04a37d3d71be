use Rattle.std.proofs.Common.{ap, arith, length, get_or, List, [], ℕ}
use Rattle.cfs_slot.specs.Tails.{tails_at}
use Rattle.cfs_dump.specs.Reads.{tails_in}
use Rattle.cfs_dump.specs.Stores.{slots_in}
use Rattle.cfs_dump.proofs.Areas.{length-heads}
use Rattle.cfs_dump.proofs.Entries.{head-tells, truncate-told, write-told}
use Rattle.cfs_dump.proofs.payload.request_at.Goals as goal

pub bounds-heads-slot : goal.bounds-heads-slot
bounds-heads-slot c =
    omega (
      arith,
      ap (λ (hs : List (List ℕ)). length hs) c.requires.heads,
      length-heads c.args.bytes.now,
      c.requires.slot,
    )

pub returns-then-kind_of-eq-TRUNCATE : goal.returns-then-kind_of-eq-TRUNCATE
returns-then-kind_of-eq-TRUNCATE c =
    truncate-told (get_or c.args.heads.now c.args.slot [])
    (get_or (slots_in c.args.bytes.now) c.args.slot [])
    (tails_at (slots_in c.args.bytes.now) c.args.slot) c.offset_of-offset.result c.kind_of.result
    (head-tells c.args.bytes.now c.args.heads.now c.args.slot c.requires.heads c.requires.slot)
    c.offset_of-offset.ensures c.kind_of.ensures c.if-kind_of-eq-TRUNCATE.true

pub returns : goal.returns
returns c =
    write-told (get_or c.args.heads.now c.args.slot [])
    (get_or (slots_in c.args.bytes.now) c.args.slot []) c.in_ok-bytes.bytes
    (tails_in c.args.bytes.now c.args.slot) c.offset_of-offset.result c.kind_of.result
    c.count_of.result c.tails_of.result
    (head-tells c.args.bytes.now c.args.heads.now c.args.slot c.requires.heads c.requires.slot)
    c.offset_of-offset.ensures c.kind_of.ensures c.if-kind_of-eq-TRUNCATE.false
    c.count_of.ensures.count c.tails_of.ensures c.in_ok-bytes.ensures
