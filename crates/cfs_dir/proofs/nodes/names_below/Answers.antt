use Rattle.std.proofs.Common.{◌≡◌, sym, ◌∙◌, ap, arith}
use Rattle.std.specs.Prelude.{Some, nat_eq}
use Rattle.std.specs.HashMap.{get}
use Rattle.cfs_dir.specs.Rename.{names_below}
use Rattle.cfs_dir.proofs.Below.{climbed-end, climbed-here, climbed-lost, climbed-next, climbed-start}
use Rattle.cfs_dir.proofs.nodes.names_below.Goals as goal

pub loop-names-init : goal.loop-names-init
loop-names-init c = climbed-start (names_below 16 (get nat_eq c.args.by_number.now) c.args.top c.args.ino)

pub returns-then-above-top : goal.returns-then-above-top
returns-then-above-top c =
    sym (climbed-here (get nat_eq c.args.by_number.now) c.args.top c.args.ino c.loop-names.above c.loop-names.names c.loop-names.invariant c.if-above-top.true)

pub returns-in_err-above : goal.returns-in_err-above
returns-in_err-above c =
    c.from_residual.ensures
    ∙ sym (climbed-lost (get nat_eq c.args.by_number.now) c.args.top c.args.ino c.loop-names.above c.loop-names.names c.loop-names.invariant
    (omega arith) c.if-above-top.false (sym c.in_err-above.ensures.value))

pub loop-names-preserved : goal.loop-names-preserved
loop-names-preserved c =
    climbed-next (get nat_eq c.args.by_number.now) c.args.top c.args.ino c.loop-names.above c.loop-names.names c.loop-names.invariant
    c.in_ok-above.field-0.now (omega arith) c.if-above-top.false (sym c.in_ok-above.ensures.value)

pub returns-then-above-top-2 : goal.returns-then-above-top-2
returns-then-above-top-2 c =
    let all : 16 ≡ c.loop-names.names = omega arith in
    ap (λ n. Some n) all
    ∙ sym (climbed-here (get nat_eq c.args.by_number.now) c.args.top c.args.ino c.loop-names.above c.loop-names.names c.loop-names.invariant c.if-above-top-2.true)

pub returns-else-above-top-2 : goal.returns-else-above-top-2
returns-else-above-top-2 c =
    sym (climbed-end (get nat_eq c.args.by_number.now) c.args.top c.args.ino c.loop-names.above c.loop-names.names c.loop-names.invariant
    (omega arith) c.if-above-top-2.false)
