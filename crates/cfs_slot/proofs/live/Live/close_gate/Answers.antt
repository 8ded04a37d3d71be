use Rattle.std.proofs.Common.{◌<◌, ◌∙◌, length, ap, arith}
use Rattle.cfs_pmem.specs.Images.{words_of}
use Rattle.cfs_pmem.proofs.MomentLemmas.{at_end}
use Rattle.cfs_slot.specs.Regions.{head_of}
use Rattle.cfs_slot.proofs.SettingLemmas.{closed_set, set_answers_err, set_answers_ok, word_kept, gated_closed, marked_gate, set_keeps_word, whole_set}
use Rattle.cfs_slot.proofs.live.Live.close_gate.Goals as goal

pub invariant_of-result : goal.invariant_of-result
invariant_of-result g c =
    let old = g.R.Region.seen c.args.self.region in
    let new = g.R.Region.seen c.set_word.new.region in
    let from = at_end c.set_word.ensures.set.moments in
    record {
      size = c.set_word.ensures.set.size ∙ c.args.self.size;
      placed = c.args.self.placed;
      gated = gated_closed old new c.args.self.place from c.args.self.gated;
      marked = marked_gate old new 0 from c.args.self.marked;
      granted = set_keeps_word 5 c.args.self.grant old new 0 0 (omega arith) from c.args.self.granted;
      whole = whole_set old new 0 0 (omega arith) from c.args.self.whole;
    }

pub invariant_of-all_slots : goal.invariant_of-all_slots
invariant_of-all_slots g c =
    let some : 0 < length (words_of (g.R.Region.seen c.args.self.region)) = omega (arith, c.args.self.size) in
    record {
      size = c.set_word.ensures.set.size ∙ c.args.self.size;
      closed = closed_set some c.in-Ok.ensures.set;
    }

pub returns-in-Ok-clause-set : goal.returns-in-Ok-clause-set
returns-in-Ok-clause-set g c =
    set_answers_ok c.all_slots.result (ap (λ rs. g.R.Region.seen (head_of c.args.self.region rs)) c.all_slots.ensures) c.in-Ok.ensures.set

pub returns-in-Err-clause-set : goal.returns-in-Err-clause-set
returns-in-Err-clause-set g c = set_answers_err _ c.in-Err.ensures.set

pub returns-in-Err-clause-grant : goal.returns-in-Err-clause-grant
returns-in-Err-clause-grant g c = word_kept 5 _ (λ e. absurd (omega (arith, e))) c.in-Err.ensures.set
