use Rattle.std.proofs.Common.{◌∙◌, ◌∷◌, ◌++◌, [], ℕ, ap, sym}
use Rattle.cfs_active.specs.View.{ActiveView, active_view}
use Rattle.cfs_tracker.specs.declared.reading.Reading.{Reading}
use Rattle.cfs_granted.specs.Rows.{Rows, may_ask}
use Rattle.cfs_granted.proofs.Lendings.{same-lent}
use Rattle.cfs_granted.proofs.Readings.{asked-granted, asker-stands}
use Rattle.cfs_granted.proofs.life.Life.admit_read.Goals as goal

pub invariant_of-self : goal.invariant_of-self
invariant_of-self c =
    let rows = c.args.self.now.grants in
    let old = active_view c.args.self.now.active in
    let new = active_view c.admit_read-reading.new.self in record {
      known = asked-granted rows c.args.self.now.readers.items c.keep_reader.new.readers.items old.state
          new.state c.args.request.now c.args.grant
          (asker-stands c.match-matches.matches c.args.grant rows
          (ap (λ (rs : Rows). may_ask c.match-matches.matches c.args.grant rs) (sym c.rows.ensures)
          ∙ sym c.may_ask.ensures ∙ c.if-not-may_ask.false))
          (ap (λ (a : ActiveView). a.state) c.admit_read-reading.ensures.view)
          (c.keep_reader.ensures
          ∙ ap (λ (place : ℕ). c.args.self.now.readers.items
          ++ record { place = place; grant = c.args.grant } ∷ [])
          (ap (λ (r : Reading). r.place) c.admit_read-reading.ensures.reading))
          c.args.self.now.known;
      lent = same-lent old new
          (ap (λ (a : ActiveView). a.state.tracker.cells) c.admit_read-reading.ensures.view)
          (ap (λ (a : ActiveView). a.jobs) c.admit_read-reading.ensures.view) c.args.self.now.lent;
    }
