use Rattle.std.proofs.Common.{ℕ, sym, ap, ◌∙◌, subst}
use Rattle.cfs_lock.specs.Log.{Grows}
use Rattle.cfs_fake.specs.declared.listed.Listed.{Listed}
use Rattle.cfs_fake.specs.Listed.{log_of, part_of}
use Rattle.cfs_fake.proofs.adding.add_next.Goals as goal

pub leave-requires-clause-grows : goal.leave-requires-clause-grows
leave-requires-clause-grows g c =
    let found = c.enter-held.result.value in
    let left = c.add-added.new.self in
    let inside = c.enter-held.ensures.inside in
    let number = c.number-number.ensures ∙ sym c.enter-held.ensures.same.1 in (
      found,
      (inside.0, ap (λ view. view.stage) inside.1),
      subst (λ (n : ℕ). Grows log_of part_of n found left) number
          (subst (λ (list : Listed). Grows log_of part_of c.number-number.result list left) c.state-list.ensures.shows c.add-added.ensures.grows),
    )
