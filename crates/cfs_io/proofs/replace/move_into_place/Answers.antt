use Rattle.std.proofs.Common.{inl, inr, sym}
use Rattle.cfs_io.proofs.Folders.{IsWhole-filled, OnOk-map, Replaced-filled}
use Rattle.cfs_io.proofs.replace.move_into_place.Goals as goal

pub returns-clause-moved : goal.returns-clause-moved
returns-clause-moved g c =
    OnOk-map c.rename.result
    (Replaced-filled _ _ _ _ _ _ _ _ c.in_ok-keep_mode.ensures.same c.requires.empty
    (c.in_ok-fill.ensures.filled c.args.beside.now c.requires.opens) c.in_ok-sync.ensures.same)
    c.rename.ensures.moved

pub returns-clause-either : goal.returns-clause-either
returns-clause-either g c = λ left may.
    let still = c.in_ok-fill.ensures.opens c.args.beside.now c.requires.opens in
    elim (c.rename.ensures.either (c.in_ok-sync.ensures.synced c.args.beside.now still) left may) [
      | inl before ↦ inl (c.in_ok-keep_mode.ensures.left c.args.name.now left
          (c.in_ok-fill.ensures.left c.args.beside.now c.requires.opens c.args.name.now (λ same. c.requires.apart (sym same)) left
          (c.in_ok-sync.ensures.left c.args.beside.now still c.args.name.now (λ same. c.requires.apart (sym same)) left before)))
      | inr of ↦ inr (IsWhole-filled _ _ _ _ _ _ left c.in_ok-keep_mode.ensures.same c.requires.empty
          (c.in_ok-fill.ensures.filled c.args.beside.now c.requires.opens) c.in_ok-sync.ensures.same of)
    ]
