use Rattle.std.proofs.Common.{◌≡◌, ◌∙◌, length, Some, sym, ap, arith}
use Rattle.std.specs.Prelude.{is_some, nat_eq}
use Rattle.std.specs.HashMap.{get}
use Rattle.std.proofs.lemmas.Result.{err_from_is_err_and}
use Rattle.cfs_image.specs.Checks.{damage_of}
use Rattle.cfs_survey.specs.Faults.{checks_from, damage_in, reported}
use Rattle.cfs_survey.specs.Slots.{slot_checks, slots_checks}
use Rattle.cfs_survey.proofs.FirstFaults.{fails_at, none_yet, sound_more}
use Rattle.cfs_survey.proofs.entries.check_slots.Goals as goal

pub returns-in_err-check_slot : goal.returns-in_err-check_slot
unfolding slots_checks
returns-in_err-check_slot c =
    let p = err_from_is_err_and c.from_residual.result c.from_residual.ensures.1 in
    let each = slot_checks c.args.at c.args.nodes.now
    (λ tag. is_some (get nat_eq c.args.blocks.now tag)) c.args.slots.now in
    let f = fails_at each 0 c.loop-slot.slot (length c.args.slots.now) c.loop-slot.slot
    (damage_in c.in_err-check_slot.field-0.0) (omega arith) (omega arith)
    c.loop-slot.invariant (sym c.in_err-check_slot.ensures) in
    ap reported p.1 ∙ ap (λ e. Some (damage_in e)) p.2 ∙ sym f

pub loop-slot-init : goal.loop-slot-init
loop-slot-init c =
    none_yet (slot_checks c.args.at c.args.nodes.now
    (λ tag. is_some (get nat_eq c.args.blocks.now tag)) c.args.slots.now) 0

pub loop-slot-preserved : goal.loop-slot-preserved
loop-slot-preserved c =
    sound_more (slot_checks c.args.at c.args.nodes.now
    (λ tag. is_some (get nat_eq c.args.blocks.now tag)) c.args.slots.now) 0 c.loop-slot.slot
    c.loop-slot.slot (omega arith) c.loop-slot.invariant (sym c.in_ok-check_slot.ensures)

pub returns : goal.returns
unfolding slots_checks
returns c =
    let each = slot_checks c.args.at c.args.nodes.now
    (λ tag. is_some (get nat_eq c.args.blocks.now tag)) c.args.slots.now in
    let all : c.loop-slot.slot ≡ length c.args.slots.now = omega arith in
    sym (ap (λ n. damage_of (checks_from each 0 n)) (sym all) ∙ c.loop-slot.invariant)
