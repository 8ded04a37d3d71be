use Rattle.std.proofs.Common.{◌≡◌, ◌∙◌, ◌<◌, ap, arith, get_or, length, sym}
use Rattle.cfs_tracker.proofs.Passing.{looks-on, of-passed}
use Rattle.cfs_tracker.proofs.tracker.Tracker.first_to_do.Goals as goal

pub loop-entry-preserved : goal.loop-entry-preserved
loop-entry-preserved g c =
    let es = c.args.self.now.entries.items in
    let at = c.loop-entry.entry-index in
    let entry = c.entry-item.result in
    let items = c.loop-entry.invariant.items in
    let less : at < length es =
    omega (arith, c.loop-entry-test.true, c.loop-entry.auto.entry-index-end, ap length items) in
    let same : entry ≡ get_or es at entry = c.entry-item.is ∙ ap (λ xs. get_or xs at entry) items in
    record {
      items = items;
      found = c.loop-entry.invariant.found
          ∙ looks-on _ es at entry less same (sym c.is_next.ensures ∙ c.if-is_next.false);
      passed = of-passed es c.loop-entry.passed c.pass.new.self at entry less same
          c.loop-entry.invariant.passed
          c.pass.ensures.rises c.pass.ensures.last c.pass.ensures.stretches;
    }
