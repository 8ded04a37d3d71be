use Rattle.std.proofs.Common.{◌<◌, ◌≡◌, ◌∙◌, length, ap, arith}
use Rattle.std.proofs.Math.ListN.{set}
use Rattle.cfs_pmem.specs.Images.{Seen, WordStep, words_of}
use Rattle.cfs_slot.specs.Regions.{tails_of_staged, words_in}
use Rattle.cfs_slot.specs.Words.{request_of}
use Rattle.cfs_slot.proofs.EntryLemmas.{request_moved}
use Rattle.cfs_pmem.proofs.MomentLemmas.{at_end}
use Rattle.cfs_slot.proofs.SettingLemmas.{word_kept, set_keeps_word, whole_offset}
use Rattle.cfs_slot.proofs.staged.Staged.set_offset.Goals as goal

pub invariant_of-self : goal.invariant_of-self
invariant_of-self g c =
    let staged = c.args.self.now in
    let old = g.R.Region.seen staged.region in
    let new = g.R.Region.seen c.set_word.new.region in
    let from = at_end c.set_word.ensures.set.moments in
    record {
      size = c.set_word.ensures.set.size ∙ staged.size;
      closed = set_keeps_word 0 0 old new 3 c.args.offset (omega arith) from staged.closed;
      unmarked = set_keeps_word 1 0 old new 3 c.args.offset (omega arith) from staged.unmarked;
      granted = set_keeps_word 5 staged.grant old new 3 c.args.offset (omega arith) from staged.granted;
      whole = whole_offset old new c.args.offset from staged.whole;
    }

pub returns-clause-request : goal.returns-clause-request
returns-clause-request g c =
    let words = words_of (g.R.Region.seen c.args.self.now.region) in
    let within : 3 < length words = omega (arith, c.args.self.now.size) in
    let now : words_of (g.R.Region.seen c.set_word.new.region) ≡ set words 3 c.args.offset =
    ap (λ (s : Seen WordStep). words_of s) c.in_ok-set_word.ensures.set.ok in
    let tails = words_in g.R.Region.seen (tails_of_staged c.args.self.now) in
    ap (λ ws. request_of ws tails) now ∙ request_moved words tails c.args.offset within

pub returns-in_err-set_word-clause-grant : goal.returns-in_err-set_word-clause-grant
returns-in_err-set_word-clause-grant g c = word_kept 5 _ (λ e. absurd (omega (arith, e))) c.in_err-set_word.ensures.set
