use Rattle.std.proofs.Common.{◌≡◌, ◌∙◌, ◌-◌, ◌+◌, Some, sym, ap, arith}
use Rattle.std.specs.Prelude.{is_some, nat_eq}
use Rattle.std.specs.HashMap.{get}
use Rattle.std.proofs.lemmas.Result.{err_from_is_err_and}
use Rattle.cfs_image.specs.Checks.{damage_of}
use Rattle.cfs_survey.specs.Faults.{checks_from, damage_in, reported}
use Rattle.cfs_survey.specs.Slots.{block_checks}
use Rattle.cfs_survey.proofs.FirstFaults.{fails_at, none_yet, sound_more}
use Rattle.cfs_survey.proofs.entries.check_range.Goals as goal

pub returns-in_err-check_block : goal.returns-in_err-check_block
returns-in_err-check_block c =
    let p = err_from_is_err_and c.from_residual.result c.from_residual.ensures.1 in
    let each = block_checks c.args.at (λ tag. is_some (get nat_eq c.args.blocks.now tag))
    c.args.words.now in
    let f = fails_at each c.args.first (c.loop-block.block - c.args.first)
    (c.args.end - c.args.first) c.loop-block.block
    (damage_in c.in_err-check_block.field-0.0) (omega arith) (omega arith)
    c.loop-block.invariant (sym c.in_err-check_block.ensures) in
    ap reported p.1 ∙ ap (λ e. Some (damage_in e)) p.2 ∙ sym f

pub loop-block-preserved : goal.loop-block-preserved
loop-block-preserved c =
    let each = block_checks c.args.at (λ tag. is_some (get nat_eq c.args.blocks.now tag))
    c.args.words.now in
    let next : c.loop-block.block + 1 - c.args.first ≡ c.loop-block.block - c.args.first + 1 =
    omega arith in
    ap (λ n. damage_of (checks_from each c.args.first n)) next
    ∙ sound_more each c.args.first (c.loop-block.block - c.args.first) c.loop-block.block
    (omega arith) c.loop-block.invariant (sym c.in_ok-check_block.ensures)

pub returns : goal.returns
returns c =
    let each = block_checks c.args.at (λ tag. is_some (get nat_eq c.args.blocks.now tag))
    c.args.words.now in
    let all : c.loop-block.block - c.args.first ≡ c.args.end - c.args.first = omega arith in
    sym (ap (λ n. damage_of (checks_from each c.args.first n)) (sym all)
    ∙ c.loop-block.invariant)

pub loop-block-init : goal.loop-block-init
loop-block-init c =
    let each = block_checks c.args.at (λ tag. is_some (get nat_eq c.args.blocks.now tag))
    c.args.words.now in
    let none : c.args.first - c.args.first ≡ 0 = omega arith in
    ap (λ n. damage_of (checks_from each c.args.first n)) none ∙ none_yet each c.args.first
