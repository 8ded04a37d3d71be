use Rattle.std.proofs.Common.{◌∙◌, arith}
use Rattle.cfs_pmem.proofs.MomentLemmas.{at_end}
use Rattle.cfs_slot.proofs.SettingLemmas.{word_kept, gated_marked, marked_marked, set_keeps_word, whole_set}
use Rattle.cfs_slot.proofs.live.Live.mark_noop.Goals as goal

pub invariant_of-self : goal.invariant_of-self
invariant_of-self g c =
    let live = c.args.self.now in
    let old = g.R.Region.seen live.region in
    let new = g.R.Region.seen c.set_word.new.region in
    let from = at_end c.set_word.ensures.set.moments in
    record {
      size = c.set_word.ensures.set.size ∙ live.size;
      placed = live.placed;
      gated = gated_marked old new live.place from live.gated;
      marked = marked_marked old new from live.marked;
      granted = set_keeps_word 5 live.grant old new 1 1 (omega arith) from live.granted;
      whole = whole_set old new 1 1 (omega arith) from live.whole;
    }

pub returns-in_err-set_word-clause-grant : goal.returns-in_err-set_word-clause-grant
returns-in_err-set_word-clause-grant g c = word_kept 5 _ (λ e. absurd (omega (arith, e))) c.in_err-set_word.ensures.set
