use Rattle.std.proofs.Common.{rules, ℕ, [], ◌∷◌, Some, sym, subst}
use Rattle.atomic_table.specs.Table as table
use Rattle.cfs_lock.specs.Rule.{Kept}
use Rattle.cfs_lock.specs.Views.{opening}
use Rattle.cfs_lock.proofs.Seats.{opens}
use Rattle.cfs_lock.proofs.lock.TreeLock.new.Goals as goal

pub new-requires : goal.new-requires
new-requires g c =
    let log = g.X.Recorded.log in
    let part = g.X.Recorded.part in
    let passes : ℕ = c.args.passes in
    let count : ℕ = c.count.result in
    subst (λ slots. Kept log part (log c.of.result.value) passes (table.opening (0 ∷ 0 ∷ count ∷ []) slots (opening (log c.of.result.value) passes))) (sym c.in_ok-slots.ensures.made)
    (subst (λ value. Kept log part (log value) passes (table.opening (0 ∷ 0 ∷ count ∷ []) (Some c.args.value ∷ []) (opening (log value) passes))) (sym c.of.ensures)
    (opens log part c.args.value passes count c.requires.some (search rules) c.requires.unused c.count.ensures))
