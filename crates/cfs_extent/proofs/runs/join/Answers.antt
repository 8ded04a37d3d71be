use Rattle.std.proofs.Common.{arith, refl, ℕ, ◌≡◌, ◌+◌, ◌-◌, ◌<◌, ◌≤◌, List, drop, take, length, get_or, set, sym, ap, ◌∙◌, subst}
use Rattle.cfs_extent.specs.Runs.{AreRuns, StartsFrom, end_of, next_start}
use Rattle.std.proofs.lemmas.Bool.{false≢true}
use Rattle.cfs_extent.specs.declared.run.Run.{Run}
use Rattle.cfs_extent.proofs.JoinedAt.{Joined, alone_at, closed_at, earlier_at, longer_at}
use Rattle.cfs_extent.proofs.RunLemmas.{end_of_read, slice_get_next}
use Rattle.cfs_extent.proofs.runs.join.Goals as goal

-- what the tests say of the list, as they read it through a slice
touching : (R R' : List Run) (at k : ℕ) → R' ≡ R → next_start 0 (take at R') ≡ k + 1 →
    next_start 0 (take at R) ≡ k + 1
touching R R' at k same h =
    let P : List Run → Type 0 = λ r. next_start 0 (take at r) ≡ k + 1 in subst P same h

far : (R R' : List Run) (at k : ℕ) → R' ≡ R → StartsFrom k (drop at R') → StartsFrom k (drop at R)
far R R' at k same h = let P : List Run → Type 0 = λ r. StartsFrom k (drop at r) in subst P same h

inside : (R R' : List Run) (at : ℕ) → R' ≡ R → at < length R' → at < length R
inside R R' at same h = let P : List Run → Type 0 = λ r. at < length r in subst P same h

same_length : (R R' : List Run) (n : ℕ) → R' ≡ R → length R' ≡ n → length R ≡ n
same_length R R' n same h = ap length (sym same) ∙ h

-- where the run before ends at the number
last_read : (R : List Run) (at : ℕ) (l : Run) → AreRuns 0 R → 0 < at → at ≤ length R →
    l ≡ get_or R (at - 1) l → end_of l ≤ 256
last_read R at l h some le is = end_of_read R (at - 1) l h (omega arith) is

pub overflow_add-last : goal.overflow_add-last
overflow_add-last c =
    omega (
      arith,
      last_read c.args.runs.now.items c.args.at c.index-last.result.now c.requires.runs
          c.in-true-true.ensures.there
          (let e = same_length _ _ _ c.deref.ensures.value c.deref.ensures.len in omega arith)
          c.index-last.ensures,
    )

pub overflow_add-last-in-true-true : goal.overflow_add-last-in-true-true
overflow_add-last-in-true-true c =
    omega (
      arith,
      last_read c.args.runs.now.items c.args.at c.index-last.result.now c.requires.runs
          c.in-true-true.ensures.there
          (let e = same_length _ _ _ c.deref.ensures.value c.deref.ensures.len in omega arith)
          c.index-last.ensures,
      end_of_read c.args.runs.now.items c.args.at c.index-next.result.now c.requires.runs
          (inside _ _ _ c.deref-2.ensures.value c.in-true-true.ensures'.touches) c.index-next.ensures,
    )

pub overflow_add-last-in-true-false : goal.overflow_add-last-in-true-false
overflow_add-last-in-true-false c =
    omega (
      arith,
      last_read c.args.runs.now.items c.args.at c.index-last-in-true-false.result.now
          c.requires.runs c.in-true-false.ensures.there
          (let e = same_length _ _ _ c.deref.ensures.value c.deref.ensures.len in omega arith)
          c.index-last-in-true-false.ensures,
    )

pub overflow_add-next : goal.overflow_add-next
overflow_add-next c =
    omega (
      arith,
      end_of_read c.args.runs.now.items c.args.at c.index-next-in-false-true.result.now
          c.requires.runs (inside _ _ _ c.deref-2.ensures.value c.in-false-true.ensures'.touches)
          c.index-next-in-false-true.ensures,
    )

both : (c : goal.After-remove) →
    Joined c.args.runs.now.items c.args.at c.args.block c.remove.new.self.items
both c =
    let len = same_length _ _ _ c.deref.ensures.value c.deref.ensures.len in
    rw (c.remove.ensures.items)
    (closed_at c.args.runs.now.items c.args.at c.args.block c.index-last.result.now
    c.index-next.result.now c.in-true-true.ensures.there
    (inside _ _ _ c.deref-2.ensures.value c.in-true-true.ensures'.touches)
    c.index-last.ensures c.index-next.ensures c.requires.runs
    (touching _ _ _ _ c.deref.ensures.value (c.in-true-true.ensures.touches.0 refl))
    (slice_get_next _ _ _ _ _ c.deref-2.ensures.value
    (inside _ _ _ c.deref-2.ensures.value c.in-true-true.ensures'.touches) c.index-next.ensures
    c.in-true-true.ensures'.first))

pub returns-in-true-true-clause-runs : goal.returns-in-true-true-clause-runs
returns-in-true-true-clause-runs c = (both c).runs

pub returns-in-true-true-clause-numbers : goal.returns-in-true-true-clause-numbers
returns-in-true-true-clause-numbers c = (both c).numbers

behind_last : (c : goal.After-runs-in-true-false-1) →
    Joined c.args.runs.now.items c.args.at c.args.block
    (set c.args.runs.now.items (c.args.at - 1)
    (record {
      first = c.index-last-in-true-false.result.now.first;
      count = c.index-last-in-true-false.result.now.count + 1;
    }))
behind_last c =
    let len = same_length _ _ _ c.deref.ensures.value c.deref.ensures.len in
    longer_at c.args.runs.now.items c.args.at c.args.block c.index-last-in-true-false.result.now
    c.in-true-false.ensures.there (omega arith) c.index-last-in-true-false.ensures c.requires.runs
    c.requires.block (touching _ _ _ _ c.deref.ensures.value (c.in-true-false.ensures.touches.0 refl))
    (far _ _ _ _ c.deref-2.ensures.value c.in-true-false.ensures'.apart)

pub returns-in-true-false-clause-runs : goal.returns-in-true-false-clause-runs
returns-in-true-false-clause-runs c = (behind_last c).runs

pub returns-in-true-false-clause-numbers : goal.returns-in-true-false-clause-numbers
returns-in-true-false-clause-numbers c = (behind_last c).numbers

not_touching : (R R' : List Run) (at k : ℕ) → R' ≡ R → (next_start 0 (take at R') ≡ k + 1 → ⊥) →
    next_start 0 (take at R) ≡ k + 1 → ⊥
not_touching R R' at k same h =
    let P : List Run → Type 0 = λ r. next_start 0 (take at r) ≡ k + 1 → ⊥ in subst P same h

before_next : (c : goal.After-runs-in-false-true-1) →
    Joined c.args.runs.now.items c.args.at c.args.block
    (set c.args.runs.now.items c.args.at
    (record { first = c.args.block; count = c.index-next-in-false-true.result.now.count + 1 }))
before_next c =
    let lt = inside _ _ _ c.deref-2.ensures.value c.in-false-true.ensures'.touches in
    earlier_at c.args.runs.now.items c.args.at c.args.block c.index-next-in-false-true.result.now
    lt c.index-next-in-false-true.ensures c.requires.runs c.requires.below
    (not_touching _ _ _ _ c.deref.ensures.value (λ e. false≢true (c.in-false-true.ensures.touches.1 e)))
    (slice_get_next _ _ _ _ _ c.deref-2.ensures.value lt c.index-next-in-false-true.ensures
    c.in-false-true.ensures'.first)

pub returns-in-false-true-clause-runs : goal.returns-in-false-true-clause-runs
returns-in-false-true-clause-runs c = (before_next c).runs

pub returns-in-false-true-clause-numbers : goal.returns-in-false-true-clause-numbers
returns-in-false-true-clause-numbers c = (before_next c).numbers

neither : (c : goal.After-insert_within) →
    Joined c.args.runs.now.items c.args.at c.args.block c.insert_within.new.list.items
neither c =
    let len = same_length _ _ _ c.deref.ensures.value c.deref.ensures.len in
    rw (c.insert_within.ensures.items)
    (alone_at c.args.runs.now.items c.args.at c.args.block (omega arith) c.requires.runs
    c.requires.block c.requires.below
    (not_touching _ _ _ _ c.deref.ensures.value
    (λ e. false≢true (c.in-false-false.ensures.touches.1 e)))
    (far _ _ _ _ c.deref-2.ensures.value c.in-false-false.ensures'.apart))

pub returns-in-false-false-clause-runs : goal.returns-in-false-false-clause-runs
returns-in-false-false-clause-runs c = (neither c).runs

pub returns-in-false-false-clause-numbers : goal.returns-in-false-false-clause-numbers
returns-in-false-false-clause-numbers c = (neither c).numbers
