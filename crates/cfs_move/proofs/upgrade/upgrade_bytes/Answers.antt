use Rattle.std.proofs.Common.{◌≡◌, ◌∙◌, ◌-◌, ◌++◌, ℕ, drop, take, ap, subst, sym}
use Rattle.std.proofs.lemmas.List.{take_rest}
use Rattle.cfs_image.specs.Checks.{IsSound}
use Rattle.cfs_move.specs.Moved.{IsMoved}
use Rattle.cfs_move.specs.Upgraded.{upgraded}
use Rattle.cfs_move.proofs.Standing.{is_moved, is_sound}
use Rattle.cfs_move.proofs.Writings.{all_written}
use Rattle.cfs_move.proofs.upgrade.upgrade_bytes.Goals as goal

-- what was written is the upgraded image
made : (c : goal.After-from_vec) → c.from_vec.result ≡ upgraded c.args.bytes.now
made c =
    let name : c.extend_from_slice.new.self.items ≡ take 8 c.args.bytes.now =
    c.in_ok-extend_from_slice.ensures.items ∙
    ap (λ bs. bs ++ take 8 c.args.bytes.now) c.in_ok-image.ensures.items in
    let rest : c.extend_from_slice-4.new.self.items
    ≡ c.push_records.new.image.items ++ drop c.old_record_at-2.result c.args.bytes.now =
    c.in_ok-extend_from_slice-4.ensures.items ∙
    ap (λ bs. c.push_records.new.image.items ++ bs)
    (take_rest c.args.bytes.now c.old_record_at-2.result) in
    c.from_vec.ensures
    ∙ all_written c.args.bytes.now c.extend_from_slice.new.self.items
    c.extend_from_slice-2.new.self.items c.extend_from_slice-3.new.self.items
    c.push_records.new.image.items c.extend_from_slice-4.new.self.items c.to_le_bytes.result
    (c.old_record_at.result - 16) c.old_record_at-2.result
    name c.in_ok-extend_from_slice-2.ensures.items c.to_le_bytes.ensures
    c.in_ok-extend_from_slice-3.ensures.items
    (ap (λ (n : ℕ). n - 16) c.old_record_at.ensures) c.in_ok-push_records.ensures rest
    c.old_record_at-2.ensures

pub returns-clause-upgraded : goal.returns-clause-upgraded
returns-clause-upgraded c = made c

pub returns-clause-sound : goal.returns-clause-sound
returns-clause-sound c =
    subst (λ bytes. IsSound bytes) (sym (made c))
    (is_sound c.args.bytes.now c.in_ok-size.ensures.sound)

pub returns-clause-moved : goal.returns-clause-moved
returns-clause-moved c =
    subst (λ bytes. IsMoved c.args.bytes.now bytes) (sym (made c))
    (is_moved c.args.bytes.now c.in_ok-size.ensures.sound)
