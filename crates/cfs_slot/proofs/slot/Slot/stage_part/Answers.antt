use Rattle.std.proofs.Common.{◌∙◌, refl}
use Rattle.cfs_pmem.specs.Images.{words_of}
use Rattle.cfs_pmem.proofs.MomentLemmas.{at_end}
use Rattle.cfs_slot.proofs.StagedLemmas.{staged_part}
use Rattle.cfs_slot.proofs.WritingLemmas.{writes_err, writes_ok}
use Rattle.cfs_slot.proofs.slot.Slot.stage_part.Goals as goal

pub invariant_of-result : goal.invariant_of-result
invariant_of-result g c = record {
  size = c.in-Ok.ensures.writes.size ∙ c.args.self.size;
  closed = at_end c.in-Ok.ensures.writes.moments;
  sure = c.in-Ok.ensures.writes.sure;
}

pub invariant_of-result-in-Err : goal.invariant_of-result-in-Err
invariant_of-result-in-Err g c = record {
  size = c.in-Err.ensures.writes.size ∙ c.args.self.size;
  closed = at_end c.in-Err.ensures.writes.moments;
}

pub returns-in-Ok-clause-staged : goal.returns-in-Ok-clause-staged
returns-in-Ok-clause-staged g c =
    staged_part c.args.ino c.args.part.now c.args.grant (words_of (g.R.Region.seen c.write_slot.new.region)) c.requires.few c.in-Ok.ensures.holds

pub returns-in-Ok-clause-writes : goal.returns-in-Ok-clause-writes
returns-in-Ok-clause-writes g c = writes_ok _ refl c.in-Ok.ensures.writes

pub returns-in-Err-clause-writes : goal.returns-in-Err-clause-writes
returns-in-Err-clause-writes g c = writes_err _ refl c.in-Err.ensures.writes
