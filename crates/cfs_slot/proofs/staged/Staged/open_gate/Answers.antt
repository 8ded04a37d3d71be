use Rattle.std.proofs.Common.{◌≡◌, ◌∙◌, drop, refl, ap, arith}
use Rattle.std.proofs.Math.ListN.{set}
use Rattle.cfs_pmem.specs.Images.{Seen, WordStep, words_of}
use Rattle.cfs_pmem.proofs.ImageLemmas.{now_is_image}
use Rattle.cfs_slot.specs.Regions.{tails_of_staged, words_in}
use Rattle.cfs_slot.specs.Words.{ino_of, live_entry}
use Rattle.cfs_slot.proofs.EntryLemmas.{live_opened}
use Rattle.cfs_pmem.proofs.MomentLemmas.{at_end}
use Rattle.cfs_slot.proofs.SettingLemmas.{set_answers_err, set_answers_ok, word_kept, gated_opened, marked_gate, set_keeps_word, whole_set}
use Rattle.cfs_slot.proofs.staged.Staged.open_gate.Goals as goal

pub invariant_of-result : goal.invariant_of-result
invariant_of-result g c =
    let staged = c.args.self in
    let old = g.R.Region.seen staged.region in
    let new = g.R.Region.seen c.set_word.new.region in
    let from = at_end c.set_word.ensures.set.moments in
    record {
      size = c.set_word.ensures.set.size ∙ staged.size;
      placed = c.requires.place;
      gated = gated_opened old new c.args.place from staged.closed;
      marked = marked_gate old new c.args.place from (λ image h. omega (arith, staged.unmarked image h));
      granted = set_keeps_word 5 staged.grant old new 0 c.args.place (omega arith) from staged.granted;
      whole = whole_set old new 0 c.args.place (omega arith) from (λ image h. ap (λ ws. drop 2 ws) (c.requires.sure image h));
    }

pub invariant_of-result-in-Err : goal.invariant_of-result-in-Err
invariant_of-result-in-Err g c =
    let staged = c.args.self in
    let old = g.R.Region.seen staged.region in
    let new = g.R.Region.seen c.set_word.new.region in
    let from = at_end c.set_word.ensures.set.moments in
    record {
      size = c.set_word.ensures.set.size ∙ staged.size;
      unmarked = set_keeps_word 1 0 old new 0 c.args.place (omega arith) from staged.unmarked;
      granted = set_keeps_word 5 staged.grant old new 0 c.args.place (omega arith) from staged.granted;
      whole = whole_set old new 0 c.args.place (omega arith) from (λ image h. ap (λ ws. drop 2 ws) (c.requires.sure image h));
    }

pub returns-in-Ok-clause-entry : goal.returns-in-Ok-clause-entry
returns-in-Ok-clause-entry g c =
    let words = words_of (g.R.Region.seen c.args.self.region) in
    let now : words_of (g.R.Region.seen c.set_word.new.region) ≡ set words 0 c.args.place = ap (λ (s : Seen WordStep). words_of s) c.in-Ok.ensures.set.ok in
    let tails = words_in g.R.Region.seen (tails_of_staged c.args.self) in
    ap (λ ws. live_entry (ino_of words) ws tails) now
    ∙ live_opened words tails c.args.place c.args.self.size c.requires.place
    (c.args.self.unmarked words (now_is_image (g.R.Region.seen c.args.self.region).history))

pub returns-in-Ok-clause-set : goal.returns-in-Ok-clause-set
returns-in-Ok-clause-set g c = set_answers_ok _ refl c.in-Ok.ensures.set

pub returns-in-Err-clause-set : goal.returns-in-Err-clause-set
returns-in-Err-clause-set g c = set_answers_err _ c.in-Err.ensures.set

pub returns-in-Err-clause-grant : goal.returns-in-Err-clause-grant
returns-in-Err-clause-grant g c = word_kept 5 _ (λ e. absurd (omega (arith, e))) c.in-Err.ensures.set
