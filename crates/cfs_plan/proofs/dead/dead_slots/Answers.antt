use Rattle.std.proofs.Common.{◌≡◌, ◌∙◌, [], ap, get_or, length, arith}
use Rattle.std.specs.Prelude.{filter}
use Rattle.std.specs.List.{range_with_len}
use Rattle.cfs_plan.specs.Lists.{is_dead}
use Rattle.cfs_plan.proofs.Filters.{one-more}
use Rattle.cfs_plan.proofs.dead.dead_slots.Goals as goal

pub loop-at-preserved : goal.loop-at-preserved
loop-at-preserved c = λ files has.
    one-more (λ at. is_dead files (get_or c.args.slots.now at [])) c.loop-at.at
    c.loop-at.dead.items c.note_where.new.list.items c.is_dead.result
    (c.loop-at.invariant files has) (c.is_dead.ensures files has) c.in_ok-note_where.ensures

pub returns : goal.returns
returns c = λ files has.
    let all : c.loop-at.at ≡ length c.args.slots.now =
    omega (arith, c.loop-at-test.false, c.loop-at.auto.at-end) in
    c.loop-at.invariant files has
    ∙ ap (λ n. filter (λ at. is_dead files (get_or c.args.slots.now at []))
    (range_with_len 0 n)) all
