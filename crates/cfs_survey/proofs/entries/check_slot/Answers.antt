use Rattle.std.proofs.Common.{◌∙◌, ◌^◌, [], ap, get_or, sym}
use Rattle.std.specs.Prelude.{if◌then◌else◌, is_some, nat_eq}
use Rattle.std.specs.HashMap.{get}
use Rattle.cfs_image.specs.Checks.{damage_of}
use Rattle.cfs_survey.specs.Slots.{open_checks, slot_at}
use Rattle.cfs_survey.proofs.SlotLemmas.{entry_low}
use Rattle.cfs_survey.proofs.entries.check_slot.Goals as goal

pub check_open-requires-clause-ino : goal.check_open-requires-clause-ino
check_open-requires-clause-ino c =
    entry_low (2 ^ 32) c.args.nodes.now (get_or c.args.slots.now c.args.slot []) c.requires.inos
    (sym c.is_entry.ensures ∙ c.if-is_entry.true)

pub returns-then-is_entry : goal.returns-then-is_entry
returns-then-is_entry c =
    c.check_open.ensures
    ∙ ap (λ b. damage_of (if b then open_checks (slot_at c.args.at c.args.slot) c.args.nodes.now
    (λ tag. is_some (get nat_eq c.args.blocks.now tag)) c.args.slots.now c.args.slot
    (get_or c.args.slots.now c.args.slot []) else []))
    (sym (sym c.is_entry.ensures ∙ c.if-is_entry.true))
