use Rattle.std.proofs.Common.{◌∙◌, ◌≡◌, get_or, inl, inr, refl, sym, ap, arith, get_or-set_same, get_or-set_other}
use Rattle.std.proofs.Math.ListN.{set}
use Rattle.std.proofs.lemmas.Bool.{cases_eq}
use Rattle.std.proofs.lemmas.List.{length-set}
use Rattle.std.proofs.lemmas.Result.{err_from_is_err_and}
use Rattle.cfs_pmem.specs.Images.{Seen, WordStep, words_of}
use Rattle.cfs_pmem.proofs.MomentLemmas.{with_reading}
use Rattle.cfs_slot.proofs.ReadLemmas.{read_none, read_more, reads_front}
use Rattle.cfs_slot.proofs.recovery.found.Goals as goal

pub loop-at-init : goal.loop-at-init
loop-at-init g c = record {
  read = read_none g.R.Region.obeys_power _ _;
  faults = refl;
  size = refl;
  words = λ k l. absurd (omega arith);
}

pub loop-at-preserved : goal.loop-at-preserved
loop-at-preserved g c =
    let inv = c.loop-at.invariant in
    let first = words_of (g.R.Region.seen c.args.region.now) in
    let word : c.in_ok-words.field-0 ≡ get_or first c.loop-at.at 0 =
    c.in_ok-words.ensures.word ∙ ap (λ (s : Seen WordStep). get_or (words_of s) c.loop-at.at 0) inv.read.same in
    record {
      read = read_more inv.read c.read.ensures.seen c.read.ensures.asks c.in_ok-words.ensures.asked;
      faults = c.in_ok-words.ensures.cause.passed ∙ inv.faults;
      size = length-set c.loop-at.words c.loop-at.at c.in_ok-words.field-0 ∙ inv.size;
      words = λ k l. elim (cases_eq k c.loop-at.at) [
        | inl here ↦
            ap (λ n. get_or (set c.loop-at.words c.loop-at.at c.in_ok-words.field-0) n 0) here
            ∙ get_or-set_same c.loop-at.words c.loop-at.at c.in_ok-words.field-0 0 (omega (arith, inv.size, c.loop-at-test.true)) ∙ word ∙ ap (λ n. get_or first n 0) (sym here)
        | inr other ↦ get_or-set_other c.loop-at.words c.loop-at.at k c.in_ok-words.field-0 0 other ∙ inv.words k (omega (arith, other, l))
      ];
    }

pub returns-in_err-words-clause-does : goal.returns-in_err-words-clause-does
returns-in_err-words-clause-does g c =
    let p = err_from_is_err_and c.from_residual.result c.from_residual.ensures.1 in
    reads_front p.0 p.1 c.loop-at-test.true c.loop-at.invariant.read c.read.ensures.seen c.in_err-words.ensures.asked

pub returns-in_err-words-clause-moments : goal.returns-in_err-words-clause-moments
returns-in_err-words-clause-moments g c = with_reading c.loop-at.invariant.read.moments c.read.ensures.seen c.read.ensures.asks
