use Rattle.std.proofs.Common.{ℕ, ◌∙◌, ◌≡◌, List, length, ap, arith}
use Rattle.std.proofs.Math.ListN.{set}
use Rattle.cfs_pmem.specs.Images.{words_of}
use Rattle.cfs_pmem.proofs.MomentLemmas.{at_end}
use Rattle.cfs_slot.specs.Staging.{staged_payload}
use Rattle.cfs_slot.specs.Words.{mark_of, grant_of}
use Rattle.cfs_slot.proofs.StagedLemmas.{payload_most, stage_holds, stage_is, staged_short}
use Rattle.cfs_slot.proofs.WritingLemmas.{writes_err, writes_ok}
use Rattle.cfs_slot.proofs.slot.Slot.stage.Goals as goal

pub write_slot-requires-clause-few : goal.write_slot-requires-clause-few
write_slot-requires-clause-few g c =
    let size : length c.staged_payload-payload.result.now ≡ length (staged_payload c.args.request.now) = ap (λ (bs : List ℕ). length bs) c.staged_payload-payload.ensures in
    omega (arith, size, payload_most c.args.request.now c.requires)

pub invariant_of-result : goal.invariant_of-result
invariant_of-result g c =
    let writes = c.in-Ok.ensures.writes in
    record {
      size = writes.size ∙ c.args.self.size;
      closed = at_end writes.moments;
      unmarked = λ image h. ap (λ ws. mark_of ws) (writes.sure image h) ∙ c.in-Ok.ensures.holds.mark_is;
      granted = λ image h. ap (λ ws. grant_of ws) (writes.sure image h) ∙ c.in-Ok.ensures.holds.grant_is;
      whole = λ image h. ap (λ ws. set ws 3 0) (writes.sure image h);
    }

pub invariant_of-result-in-Err : goal.invariant_of-result-in-Err
invariant_of-result-in-Err g c = record {
  size = c.in-Err.ensures.writes.size ∙ c.args.self.size;
  closed = at_end c.in-Err.ensures.writes.moments;
}

pub returns-in-Ok-clause-staged : goal.returns-in-Ok-clause-staged
returns-in-Ok-clause-staged g c =
    let words = words_of (g.R.Region.seen c.write_slot.new.region) in
    staged_short c.args.ino c.args.request.now c.args.grant words c.requires
    (stage_holds c.args.ino c.args.grant c.args.request.now c.staged_offset.result c.staged_kind.result c.staged_payload-payload.result.now words
    c.staged_offset.ensures c.staged_kind.ensures.kind c.staged_payload-payload.ensures c.in-Ok.ensures.holds)

pub returns-in-Ok-clause-writes : goal.returns-in-Ok-clause-writes
returns-in-Ok-clause-writes g c =
    writes_ok _ (stage_is c.args.ino c.args.grant c.args.request.now c.staged_offset.result c.staged_kind.result c.staged_payload-payload.result.now
    c.staged_offset.ensures c.staged_kind.ensures.kind c.staged_payload-payload.ensures) c.in-Ok.ensures.writes

pub returns-in-Err-clause-writes : goal.returns-in-Err-clause-writes
returns-in-Err-clause-writes g c =
    writes_err _ (stage_is c.args.ino c.args.grant c.args.request.now c.staged_offset.result c.staged_kind.result c.staged_payload-payload.result.now
    c.staged_offset.ensures c.staged_kind.ensures.kind c.staged_payload-payload.ensures) c.in-Err.ensures.writes
