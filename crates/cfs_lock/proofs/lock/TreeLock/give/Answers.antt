use Rattle.std.proofs.Common.{rules, ap, ◌∙◌, ◌∷◌, sym, Some, subst, ℕ}
use Rattle.atomic_table.specs.Table.{rest}
use Rattle.cfs_lock.specs.Log.{Grows}
use Rattle.cfs_lock.specs.Views.{first_number}
use Rattle.cfs_lock.proofs.Steps.{counts_out, serves}
use Rattle.cfs_lock.proofs.lock.TreeLock.give.Goals as goal

pub swap-requires : goal.swap-requires
swap-requires g c =
    let now = c.exchange-empty.ensures.3 in
    let asks = c.requires.grows in
    let books = ap (λ m. first_number m.0.books) now in (
      search rules,
      search rules,
      counts_out g.X.Recorded.log g.X.Recorded.part _ _ _ _ _ asks.0 _ asks.1 c.args.value (ap (λ m. m.0.stage) now ∙ asks.2)
          (ap (λ m. m.1) now ∙ ap (λ l. (0, Some c.args.value) ∷ rest l) c.requires.handed)
          (subst (λ (n : ℕ). Grows g.X.Recorded.log g.X.Recorded.part n asks.1 c.args.value) (sym books) asks.3)
          c.count-count.ensures,
    )

pub fetch_add-requires : goal.fetch_add-requires
fetch_add-requires g c =
    let now = c.exchange-empty.ensures.3 in
    let asks = c.requires.grows in
    let told = c.swap.ensures.2 asks.0 asks.1 c.args.value (ap (λ m. m.0.stage) now ∙ asks.2) (ap (λ m. m.1) now ∙ ap (λ l. (0, Some c.args.value) ∷ rest l) c.requires.handed) in (
      search rules,
      search rules,
      serves g.X.Recorded.log g.X.Recorded.part _ _ _ _ _ _ asks.0 (ap (λ m. m.0.stage) told),
    )
