use Rattle.std.proofs.Common.{◌≡◌, ◌&&◌, drop, find, nat_lt}
use Rattle.cfs_tracker.specs.Passed.{IsOf}
use Rattle.cfs_tracker.specs.View.{view_of}
use Rattle.cfs_tracker.specs.Work.{is_to_do}
use Rattle.cfs_tracker.proofs.tracker.Tracker.first_to_do.Given as goal

abbrev pub invariant-loop-entry : goal.invariant-loop-entry
invariant-loop-entry g l = record {
  items : l.entry-items ≡ l.self.entries.items;
  found : find (λ e. nat_lt l.after e.place && is_to_do (view_of l.self) e) l.self.entries.items
      ≡ find (λ e. nat_lt l.after e.place && is_to_do (view_of l.self) e)
      (drop l.entry-index l.self.entries.items);
  passed : IsOf l.self.entries.items l.passed;
}
