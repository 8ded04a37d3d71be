use Rattle.std.proofs.Common.{◌∙◌, get_or, refl, arith}
use Rattle.std.proofs.lemmas.Result.{err_from_is_err_and}
use Rattle.cfs_pmem.proofs.WordLemmas.{written_none, written_more, written-size, writes_all, writes_front}
use Rattle.cfs_pmem.proofs.region.write_words.Goals as goal

pub loop-i-init : goal.loop-i-init
loop-i-init g c = record {
  written = written_none g.R.Region.obeys_power c.args.from c.args.words.now _ _;
  faults = refl;
}

pub write-requires : goal.write-requires
write-requires g c =
    omega (arith, written-size c.requires.within c.loop-i.invariant.written)

pub loop-i-preserved : goal.loop-i-preserved
loop-i-preserved g c = record {
  written = written_more (get_or c.args.words.now c.loop-i.i 0) refl c.loop-i-test.true c.requires.within c.loop-i.invariant.written
      c.in_ok-write.ensures.ok c.write.ensures.asks c.in_ok-write.ensures.asked;
  faults = c.in_ok-write.ensures.cause.passed ∙ c.loop-i.invariant.faults;
}

pub returns-in_err-write-clause-written : goal.returns-in_err-write-clause-written
returns-in_err-write-clause-written g c =
    let p = err_from_is_err_and c.from_residual.result c.from_residual.ensures.1 in
    writes_front p.0 p.1 c.loop-i-test.true c.requires.within c.loop-i.invariant.written
    c.in_err-write.ensures.err c.write.ensures.asks c.in_err-write.ensures.asked

pub returns-clause-written : goal.returns-clause-written
returns-clause-written g c = writes_all tt c.loop-i-test.false c.requires.within c.loop-i.invariant.written
