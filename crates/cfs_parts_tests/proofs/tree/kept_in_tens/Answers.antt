use Rattle.std.proofs.Common.{◌+◌, ◌*◌, ◌≡◌, ◌∙◌, true, Ok, ap, arith, length, rules}
use Rattle.cfs_file.specs.declared.span.Span.TheVariants.{Range}
use Rattle.cfs_tree.specs.Spans.{insert_in_order, overlap_count}
use Rattle.cfs_tree.proofs.Tens.{tens_from, tens_more}
use Rattle.cfs_parts_tests.proofs.tree.kept_in_tens.Goals as goal

pub loop-i-preserved : goal.loop-i-preserved
loop-i-preserved g c =
    let i = c.loop-i.i in
    let was_new : c.in_ok-is_new.is_new ≡ true = search rules in
    let result : c.keep.result ≡ Ok true = c.in_ok-is_new.was ∙ ap (λ b. Ok b) was_new in
    c.keep.ensures.kept result
    ∙ ap (λ l. insert_in_order (i + 1, Range (10 * i) (10 * i + 5)) l) c.loop-i.invariant
    ∙ tens_more 0 i i (omega arith)

pub first_of_one-requires-clause-spans : goal.first_of_one-requires-clause-spans
first_of_one-requires-clause-spans g c =
    let all : c.loop-i.i ≡ 200 = omega arith in
    let e = c.loop-i.invariant ∙ ap (λ n. tens_from 0 n) all in
    let count : length c.loop-i.tree.spans ≡ 200 = ap (λ l. length l) e in
    omega arith

pub first_of_one-requires-clause-one : goal.first_of_one-requires-clause-one
first_of_one-requires-clause-one g c =
    let all : c.loop-i.i ≡ 200 = omega arith in
    let e = c.loop-i.invariant ∙ ap (λ n. tens_from 0 n) all in
    let count : overlap_count (Range 1000 1005) c.loop-i.tree.spans ≡ 1 = ap (λ l. overlap_count (Range 1000 1005) l) e in
    omega arith
