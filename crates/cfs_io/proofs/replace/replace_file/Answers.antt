use Rattle.std.proofs.Common.{inl, inr, sym, arith}
use Rattle.cfs_io.proofs.Folders.{Finds-made, HasOneBeside-made, IsWhole-made, IsWhole-put, Put-replaced, Rose-after, kept_apart, same-removed}
use Rattle.cfs_io.proofs.replace.replace_file.Goals as goal

pub move_into_place-requires-clause-empty : goal.move_into_place-requires-clause-empty
move_into_place-requires-clause-empty g c = Finds-made _ _ _ c.in_ok-file.ensures.made

pub returns-in-Ok-clause-left : goal.returns-in-Ok-clause-left
returns-in-Ok-clause-left g c = same-removed _ _ _ _ _ c.in_ok-file.ensures.made c.in-Err.ensures.kept c.in-Ok.ensures.removed

pub returns-in-Ok-clause-cause : goal.returns-in-Ok-clause-cause
returns-in-Ok-clause-cause g c = Rose-after _ _ _ _ c.in_ok-file.ensures.later c.in-Err.ensures.cause.failed c.in-Ok.ensures.cause.later

pub returns-in-Ok-clause-either : goal.returns-in-Ok-clause-either
returns-in-Ok-clause-either g c = λ left may.
    let apart = kept_apart c.in_ok-file.beside c.args.name.now c.in_ok-file.ensures.kept c.requires in
    elim (c.in-Err.ensures.either left (c.in-Ok.ensures.left c.args.name.now (λ same. apart (sym same)) left may)) [
      | inl before ↦ inl (c.in_ok-file.ensures.left c.args.name.now c.requires left before)
      | inr whole ↦ inr (IsWhole-made _ _ _ _ left c.in_ok-file.ensures.made whole)
    ]

pub returns-in-Err-remove-clause-left : goal.returns-in-Err-remove-clause-left
returns-in-Err-remove-clause-left g c =
    HasOneBeside-made _ _ _ _ _ c.in_ok-file.ensures.kept c.in_ok-file.ensures.made c.in-Err.ensures.kept c.in-Err-remove.ensures.same

pub returns-in-Err-remove-clause-cause : goal.returns-in-Err-remove-clause-cause
returns-in-Err-remove-clause-cause g c = Rose-after _ _ _ _ c.in_ok-file.ensures.later c.in-Err.ensures.cause.failed c.in-Err-remove.ensures.cause.later

pub returns-in-Err-remove-clause-either : goal.returns-in-Err-remove-clause-either
returns-in-Err-remove-clause-either g c = λ left may.
    let apart = kept_apart c.in_ok-file.beside c.args.name.now c.in_ok-file.ensures.kept c.requires in
    elim (c.in-Err.ensures.either left (c.in-Err-remove.ensures.left c.args.name.now (λ same. apart (sym same)) left may)) [
      | inl before ↦ inl (c.in_ok-file.ensures.left c.args.name.now c.requires left before)
      | inr whole ↦ inr (IsWhole-made _ _ _ _ left c.in_ok-file.ensures.made whole)
    ]

pub returns-in-Ok-sync_names-clause-saved : goal.returns-in-Ok-sync_names-clause-saved
returns-in-Ok-sync_names-clause-saved g c =
    Put-replaced _ _ _ _ _ _ _ c.in_ok-file.ensures.made c.in_default.ensures.moved c.in-Ok-sync_names.ensures.same

pub returns-in-Ok-sync_names-clause-durable : goal.returns-in-Ok-sync_names-clause-durable
returns-in-Ok-sync_names-clause-durable g c = λ left may.
    IsWhole-put _ _ _ _ _ _ left c.in_ok-file.ensures.made c.in_default.ensures.moved
    (c.in-Ok-sync_names.ensures.sure c.in_default.ensures.synced left may)

pub returns-in-Ok-sync_names-clause-either : goal.returns-in-Ok-sync_names-clause-either
returns-in-Ok-sync_names-clause-either g c = λ left may.
    inr (IsWhole-put _ _ _ _ _ _ left c.in_ok-file.ensures.made c.in_default.ensures.moved
    (c.in-Ok-sync_names.ensures.sure c.in_default.ensures.synced left may))

pub returns-clause-left : goal.returns-clause-left
returns-clause-left g c =
    Put-replaced _ _ _ _ _ _ _ c.in_ok-file.ensures.made c.in_default.ensures.moved c.in-Err-sync_names.ensures.same

pub returns-clause-cause : goal.returns-clause-cause
returns-clause-cause g c =
    let later = c.in_ok-file.ensures.later in
    let moved = c.in_default.ensures.cause.later in
    let rose = c.in-Err-sync_names.ensures.cause.failed in
    omega arith

pub returns-clause-either : goal.returns-clause-either
returns-clause-either g c = λ left may.
    elim (c.in_default.ensures.either left (c.in-Err-sync_names.ensures.left c.args.name.now left may)) [
      | inl before ↦ inl (c.in_ok-file.ensures.left c.args.name.now c.requires left before)
      | inr whole ↦ inr (IsWhole-made _ _ _ _ left c.in_ok-file.ensures.made whole)
    ]
