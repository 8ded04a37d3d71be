use Rattle.std.proofs.Common.{arith, ◌≤◌, ◌^◌, ◌*◌, ◌+◌, ℕ, length, inl, inr, ◌<◌}
use Rattle.std.proofs.Math.Nat.{pow-le-pow_right}
use Rattle.std.proofs.lemmas.Bool.{cases_lt}
use Rattle.std.proofs.lemmas.Nat.{mul-le}
use Rattle.cfs_tree.specs.Spans.{overlap_count}
use Rattle.cfs_tree.proofs.Lists.{square}
use Rattle.cfs_tree.proofs.bound.bound_of_two_hundred.Goals as goal

pub returns : goal.returns
returns c = λ spans asked steps few bound.
    let h = bound.0 in
    let k : ℕ = overlap_count asked spans + 1 in
    let within : 2 ^ h ≤ (length spans + 1) ^ 2 = bound.1 in
    let is = square (length spans + 1) in
    let most = mul-le (length spans + 1) (length spans + 1) 201 201 (omega arith) (omega arith) in
    let cost : steps ≤ k * (h + 1) = bound.2 in
    elim (cases_lt h 16) [
      | inl low ↦ let more = mul-le k (h + 1) k 16 (omega arith) (omega arith) in omega arith
      | inr high ↦ let two : 0 < 2 = omega arith in
          let past : 2 ^ 16 ≤ 2 ^ h = pow-le-pow_right two high in absurd (omega arith)
    ]
