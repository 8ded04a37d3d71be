use Rattle.std.proofs.Common.{◌≤◌, ◌-◌, ◌≡◌, ℕ, Some}
use Rattle.cfs_conflict.specs.Conflicts.{IsToMark, lists_of}
use Rattle.cfs_tree.specs.Spans.{span_at, IsBounded}
use Rattle.cfs_conflict.proofs.questions.to_mark_of.Given as goal

abbrev pub invariant-loop-covered : goal.invariant-loop-covered
invariant-loop-covered g l = record {
  fit : IsBounded l.span;
  kept : span_at l.entries.spans l.place ≡ Some l.span;
  later : l.after ≤ l.passed;
  none : (n : ℕ) → IsToMark (lists_of l.entries l.reads) l.place l.after n → n ≤ l.passed → ⊥;
}

abbrev pub decreases-loop-covered : goal.decreases-loop-covered
decreases-loop-covered g l = l.place - l.passed
