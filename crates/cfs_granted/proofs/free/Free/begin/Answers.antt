use Rattle.std.proofs.Common.{◌∙◌, [], ap, arith}
use Rattle.cfs_active.specs.Memory.{words_seen}
use Rattle.cfs_active.specs.View.{ActiveView, active_view}
use Rattle.cfs_granted.specs.Attaching.{no_rows, with_grant}
use Rattle.cfs_granted.specs.View.{LifeView, life_view}
use Rattle.cfs_granted.specs.Rows.{Rows}
use Rattle.cfs_granted.proofs.Lendings.{stored-lent}
use Rattle.cfs_granted.proofs.free.Free.begin.Goals as goal

pub returns-in-Ok-clause-life : goal.returns-in-Ok-clause-life
returns-in-Ok-clause-life c =
    let bare = life_view c.ungranted-life.result in (
      omega (arith, c.if-grant-self.false),
      ap (λ (rows : Rows). record bare { grants = rows }) c.give.ensures
          ∙ ap (λ (view : LifeView). with_grant c.args.grant view) c.ungranted-life.ensures
          ∙ ap (λ (active : ActiveView). with_grant c.args.grant
          (record { active = active; grants = no_rows; readers = [] })) c.in-Ok.ensures.view,
    )

pub ungranted-life-requires-clause-none : goal.ungranted-life-requires-clause-none
ungranted-life-requires-clause-none c =
    stored-lent c.args.grant.ino 0 (words_seen c.args.self.size) [] (active_view c.in-Ok.active)
    c.in-Ok.ensures.view
