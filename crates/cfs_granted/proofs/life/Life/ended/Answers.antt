use Rattle.std.proofs.Common.{◌≡◌, ◌∙◌, None, ap, subst, sym}
use Rattle.cfs_active.specs.View.{active_view}
use Rattle.cfs_granted.specs.Ending.{IsEnding}
use Rattle.cfs_granted.specs.Rows.{Rows, first_number}
use Rattle.cfs_granted.proofs.Purgings.{life-ends}
use Rattle.cfs_granted.proofs.life.Life.ended.Goals as goal

pub invariant_of-result : goal.invariant_of-result
invariant_of-result c =
    let life = c.args.self in
    let none : first_number life.grants ≡ None =
    ap (λ (rs : Rows). first_number rs) (sym c.rows.ensures) ∙ sym c.first_number.ensures
    ∙ c.in_default.is in record {
      known = subst IsEnding (sym c.into_parts-state.ensures.state)
          (life-ends life.grants life.readers.items (active_view life.active) none life.known
          life.lent life.active.known).ending;
    }

pub returns-clause-jobs : goal.returns-clause-jobs
returns-clause-jobs c =
    let life = c.args.self in
    let none : first_number life.grants ≡ None =
    ap (λ (rs : Rows). first_number rs) (sym c.rows.ensures) ∙ sym c.first_number.ensures
    ∙ c.in_default.is in
    (life-ends life.grants life.readers.items (active_view life.active) none life.known life.lent
    life.active.known).jobs
