use Rattle.std.proofs.Common.{ℕ, ◌≡◌, ◌∙◌, ◌++◌, ◌-◌, map, sym, ap, rules}
use Rattle.std.proofs.Props.{props}
use Rattle.std.proofs.Math.Logic.{∥∥₁_elim}
use Rattle.cfs_slot.specs.Reads.{regions_of}
use Rattle.cfs_slot.specs.Regions.{place_of}
use Rattle.cfs_job.specs.Counts.{faults_in}
use Rattle.cfs_job.specs.Jobs.{job_view}
use Rattle.cfs_job.specs.Steps.{steps_left}
use Rattle.cfs_job.specs.Tiles.{tile_in}
use Rattle.cfs_job.proofs.CauseLemmas.{blocks_alone, nothing_called, with_before, with_behind}
use Rattle.cfs_job.proofs.JobLemmas.{spans_by_first, spans_by_second, touched_by_first}
use Rattle.cfs_job.proofs.JobLemmas.{touched_by_second, turn_flush_first, turn_flush_second}
use Rattle.cfs_job.proofs.JobLemmas.{turn_nothing, turn_write_first, turn_write_second}
use Rattle.cfs_job.proofs.MadeLemmas.{Made, full_in}
use Rattle.cfs_job.proofs.MadeLemmas as made
use Rattle.cfs_job.proofs.SpanLemmas.{span_prop}
use Rattle.cfs_job.proofs.job.Job.apply_step.Goals as goal

pub write_in-requires : goal.write_in-requires
write_in-requires g c =
    let old = job_view g.R.Region.seen g.B.Block.seen g.B.Block.number c.args.self.now in
    let turn = sym c.in-WriteFirst.is ∙ c.next.ensures in
    let unwritten = turn_write_first old turn in
    let spans = ∥∥₁_elim c.args.self.now.sound (span_prop old.span _)
    (λ k. spans_by_first old.first k unwritten) in
    let touched = ∥∥₁_elim c.args.self.now.sound (hlevel props) (λ k. touched_by_first old.first k unwritten) in
    (search rules, (spans, (touched, unwritten)))

pub invariant_of-self : goal.invariant_of-self
invariant_of-self g c =
    let old = job_view g.R.Region.seen g.B.Block.seen g.B.Block.number c.args.self.now in
    record {
      sound = (made.write_first old (place_of c.write_in.new.request) (map g.R.Region.seen (regions_of c.write_in.new.request))
          (tile_in g.B.Block.seen g.B.Block.number c.write_in.new.tile) (sym c.in-WriteFirst.is ∙ c.next.ensures) c.args.self.now.sound c.write_in.ensures.place c.write_in.ensures.seen
          (λ was is. full_in g.B.Block.seen g.B.Block.number g.met.B.Block.full c.args.self.now.first was is) c.write_in.ensures.writes).sound;
    }

pub returns-in-WriteFirst-clause-makes : goal.returns-in-WriteFirst-clause-makes
returns-in-WriteFirst-clause-makes g c =
    let old = job_view g.R.Region.seen g.B.Block.seen g.B.Block.number c.args.self.now in
    (made.write_first old (place_of c.write_in.new.request) (map g.R.Region.seen (regions_of c.write_in.new.request))
    (tile_in g.B.Block.seen g.B.Block.number c.write_in.new.tile) (sym c.in-WriteFirst.is ∙ c.next.ensures) c.args.self.now.sound c.write_in.ensures.place c.write_in.ensures.seen
    (λ was is. full_in g.B.Block.seen g.B.Block.number g.met.B.Block.full c.args.self.now.first was is) c.write_in.ensures.writes).makes

pub returns-in-WriteFirst-clause-notes : goal.returns-in-WriteFirst-clause-notes
returns-in-WriteFirst-clause-notes g c =
    let old = job_view g.R.Region.seen g.B.Block.seen g.B.Block.number c.args.self.now in
    (made.write_first old (place_of c.write_in.new.request) (map g.R.Region.seen (regions_of c.write_in.new.request))
    (tile_in g.B.Block.seen g.B.Block.number c.write_in.new.tile) (sym c.in-WriteFirst.is ∙ c.next.ensures) c.args.self.now.sound c.write_in.ensures.place c.write_in.ensures.seen
    (λ was is. full_in g.B.Block.seen g.B.Block.number g.met.B.Block.full c.args.self.now.first was is) c.write_in.ensures.writes).notes

pub returns-in-WriteFirst-clause-ok : goal.returns-in-WriteFirst-clause-ok
returns-in-WriteFirst-clause-ok g c =
    let old = job_view g.R.Region.seen g.B.Block.seen g.B.Block.number c.args.self.now in
    (made.write_first old (place_of c.write_in.new.request) (map g.R.Region.seen (regions_of c.write_in.new.request))
    (tile_in g.B.Block.seen g.B.Block.number c.write_in.new.tile) (sym c.in-WriteFirst.is ∙ c.next.ensures) c.args.self.now.sound c.write_in.ensures.place c.write_in.ensures.seen
    (λ was is. full_in g.B.Block.seen g.B.Block.number g.met.B.Block.full c.args.self.now.first was is) c.write_in.ensures.writes).counted.ok

pub returns-in-WriteFirst-clause-err : goal.returns-in-WriteFirst-clause-err
returns-in-WriteFirst-clause-err g c =
    let old = job_view g.R.Region.seen g.B.Block.seen g.B.Block.number c.args.self.now in
    (made.write_first old (place_of c.write_in.new.request) (map g.R.Region.seen (regions_of c.write_in.new.request))
    (tile_in g.B.Block.seen g.B.Block.number c.write_in.new.tile) (sym c.in-WriteFirst.is ∙ c.next.ensures) c.args.self.now.sound c.write_in.ensures.place c.write_in.ensures.seen
    (λ was is. full_in g.B.Block.seen g.B.Block.number g.met.B.Block.full c.args.self.now.first was is) c.write_in.ensures.writes).counted.err

pub returns-in-WriteFirst-clause-cause : goal.returns-in-WriteFirst-clause-cause
returns-in-WriteFirst-clause-cause g c =
    with_behind (faults_in g.B.Block.faults c.args.self.now.first) (faults_in g.B.Block.faults c.write_in.new.tile) (faults_in g.B.Block.faults c.args.self.now.second) c.write_in.result
    c.write_in.ensures.cause

pub write_in-requires-in-WriteSecond : goal.write_in-requires-in-WriteSecond
write_in-requires-in-WriteSecond g c =
    let old = job_view g.R.Region.seen g.B.Block.seen g.B.Block.number c.args.self.now in
    let turn = sym c.in-WriteSecond.is ∙ c.next.ensures in
    let unwritten = turn_write_second old turn in
    let spans = ∥∥₁_elim c.args.self.now.sound (span_prop old.span _)
    (λ k. spans_by_second old.second k unwritten) in
    let touched = ∥∥₁_elim c.args.self.now.sound (hlevel props) (λ k. touched_by_second old.second k unwritten) in
    (search rules, (spans, (touched, unwritten)))

pub invariant_of-self-in-WriteSecond : goal.invariant_of-self-in-WriteSecond
invariant_of-self-in-WriteSecond g c =
    let old = job_view g.R.Region.seen g.B.Block.seen g.B.Block.number c.args.self.now in
    record {
      sound = (made.write_second old (place_of c.write_in-in-WriteSecond.new.request) (map g.R.Region.seen (regions_of c.write_in-in-WriteSecond.new.request))
          (tile_in g.B.Block.seen g.B.Block.number c.write_in-in-WriteSecond.new.tile) (sym c.in-WriteSecond.is ∙ c.next.ensures) c.args.self.now.sound c.write_in-in-WriteSecond.ensures.place c.write_in-in-WriteSecond.ensures.seen
          (λ was is. full_in g.B.Block.seen g.B.Block.number g.met.B.Block.full c.args.self.now.second was is) c.write_in-in-WriteSecond.ensures.writes).sound;
    }

pub returns-in-WriteSecond-clause-makes : goal.returns-in-WriteSecond-clause-makes
returns-in-WriteSecond-clause-makes g c =
    let old = job_view g.R.Region.seen g.B.Block.seen g.B.Block.number c.args.self.now in
    (made.write_second old (place_of c.write_in-in-WriteSecond.new.request) (map g.R.Region.seen (regions_of c.write_in-in-WriteSecond.new.request))
    (tile_in g.B.Block.seen g.B.Block.number c.write_in-in-WriteSecond.new.tile) (sym c.in-WriteSecond.is ∙ c.next.ensures) c.args.self.now.sound c.write_in-in-WriteSecond.ensures.place c.write_in-in-WriteSecond.ensures.seen
    (λ was is. full_in g.B.Block.seen g.B.Block.number g.met.B.Block.full c.args.self.now.second was is) c.write_in-in-WriteSecond.ensures.writes).makes

pub returns-in-WriteSecond-clause-notes : goal.returns-in-WriteSecond-clause-notes
returns-in-WriteSecond-clause-notes g c =
    let old = job_view g.R.Region.seen g.B.Block.seen g.B.Block.number c.args.self.now in
    (made.write_second old (place_of c.write_in-in-WriteSecond.new.request) (map g.R.Region.seen (regions_of c.write_in-in-WriteSecond.new.request))
    (tile_in g.B.Block.seen g.B.Block.number c.write_in-in-WriteSecond.new.tile) (sym c.in-WriteSecond.is ∙ c.next.ensures) c.args.self.now.sound c.write_in-in-WriteSecond.ensures.place c.write_in-in-WriteSecond.ensures.seen
    (λ was is. full_in g.B.Block.seen g.B.Block.number g.met.B.Block.full c.args.self.now.second was is) c.write_in-in-WriteSecond.ensures.writes).notes

pub returns-in-WriteSecond-clause-ok : goal.returns-in-WriteSecond-clause-ok
returns-in-WriteSecond-clause-ok g c =
    let old = job_view g.R.Region.seen g.B.Block.seen g.B.Block.number c.args.self.now in
    (made.write_second old (place_of c.write_in-in-WriteSecond.new.request) (map g.R.Region.seen (regions_of c.write_in-in-WriteSecond.new.request))
    (tile_in g.B.Block.seen g.B.Block.number c.write_in-in-WriteSecond.new.tile) (sym c.in-WriteSecond.is ∙ c.next.ensures) c.args.self.now.sound c.write_in-in-WriteSecond.ensures.place c.write_in-in-WriteSecond.ensures.seen
    (λ was is. full_in g.B.Block.seen g.B.Block.number g.met.B.Block.full c.args.self.now.second was is) c.write_in-in-WriteSecond.ensures.writes).counted.ok

pub returns-in-WriteSecond-clause-err : goal.returns-in-WriteSecond-clause-err
returns-in-WriteSecond-clause-err g c =
    let old = job_view g.R.Region.seen g.B.Block.seen g.B.Block.number c.args.self.now in
    (made.write_second old (place_of c.write_in-in-WriteSecond.new.request) (map g.R.Region.seen (regions_of c.write_in-in-WriteSecond.new.request))
    (tile_in g.B.Block.seen g.B.Block.number c.write_in-in-WriteSecond.new.tile) (sym c.in-WriteSecond.is ∙ c.next.ensures) c.args.self.now.sound c.write_in-in-WriteSecond.ensures.place c.write_in-in-WriteSecond.ensures.seen
    (λ was is. full_in g.B.Block.seen g.B.Block.number g.met.B.Block.full c.args.self.now.second was is) c.write_in-in-WriteSecond.ensures.writes).counted.err

pub returns-in-WriteSecond-clause-cause : goal.returns-in-WriteSecond-clause-cause
returns-in-WriteSecond-clause-cause g c =
    with_before (faults_in g.B.Block.faults c.args.self.now.second) (faults_in g.B.Block.faults c.write_in-in-WriteSecond.new.tile) (faults_in g.B.Block.faults c.args.self.now.first) c.write_in-in-WriteSecond.result
    c.write_in-in-WriteSecond.ensures.cause

pub flush_in-requires : goal.flush_in-requires
flush_in-requires g c =
    let old = job_view g.R.Region.seen g.B.Block.seen g.B.Block.number c.args.self.now in
    record { unflushed = (turn_flush_first old (sym c.in-FlushFirst.is ∙ c.next.ensures)).1 }

pub invariant_of-self-in-FlushFirst : goal.invariant_of-self-in-FlushFirst
invariant_of-self-in-FlushFirst g c =
    let old = job_view g.R.Region.seen g.B.Block.seen g.B.Block.number c.args.self.now in
    record {
      sound = (made.flush_first {obeys_slots = g.R.Region.obeys_power} old (tile_in g.B.Block.seen g.B.Block.number c.flush_in.new.tile) (sym c.in-FlushFirst.is ∙ c.next.ensures)
          c.args.self.now.sound c.flush_in.ensures.flushes).sound;
    }

pub returns-in-FlushFirst-clause-makes : goal.returns-in-FlushFirst-clause-makes
returns-in-FlushFirst-clause-makes g c =
    let old = job_view g.R.Region.seen g.B.Block.seen g.B.Block.number c.args.self.now in
    (made.flush_first {obeys_slots = g.R.Region.obeys_power} old (tile_in g.B.Block.seen g.B.Block.number c.flush_in.new.tile) (sym c.in-FlushFirst.is ∙ c.next.ensures)
    c.args.self.now.sound c.flush_in.ensures.flushes).makes

pub returns-in-FlushFirst-clause-notes : goal.returns-in-FlushFirst-clause-notes
returns-in-FlushFirst-clause-notes g c =
    let old = job_view g.R.Region.seen g.B.Block.seen g.B.Block.number c.args.self.now in
    (made.flush_first {obeys_slots = g.R.Region.obeys_power} old (tile_in g.B.Block.seen g.B.Block.number c.flush_in.new.tile) (sym c.in-FlushFirst.is ∙ c.next.ensures)
    c.args.self.now.sound c.flush_in.ensures.flushes).notes

pub returns-in-FlushFirst-clause-ok : goal.returns-in-FlushFirst-clause-ok
returns-in-FlushFirst-clause-ok g c =
    let old = job_view g.R.Region.seen g.B.Block.seen g.B.Block.number c.args.self.now in
    (made.flush_first {obeys_slots = g.R.Region.obeys_power} old (tile_in g.B.Block.seen g.B.Block.number c.flush_in.new.tile) (sym c.in-FlushFirst.is ∙ c.next.ensures)
    c.args.self.now.sound c.flush_in.ensures.flushes).counted.ok

pub returns-in-FlushFirst-clause-err : goal.returns-in-FlushFirst-clause-err
returns-in-FlushFirst-clause-err g c =
    let old = job_view g.R.Region.seen g.B.Block.seen g.B.Block.number c.args.self.now in
    (made.flush_first {obeys_slots = g.R.Region.obeys_power} old (tile_in g.B.Block.seen g.B.Block.number c.flush_in.new.tile) (sym c.in-FlushFirst.is ∙ c.next.ensures)
    c.args.self.now.sound c.flush_in.ensures.flushes).counted.err

pub returns-in-FlushFirst-clause-cause : goal.returns-in-FlushFirst-clause-cause
returns-in-FlushFirst-clause-cause g c =
    with_behind (faults_in g.B.Block.faults c.args.self.now.first) (faults_in g.B.Block.faults c.flush_in.new.tile) (faults_in g.B.Block.faults c.args.self.now.second) c.flush_in.result
    (blocks_alone (map g.R.Region.faults (regions_of c.args.self.now.request)) (faults_in g.B.Block.faults c.args.self.now.first) (faults_in g.B.Block.faults c.flush_in.new.tile) c.flush_in.result c.flush_in.ensures.cause)

pub flush_in-requires-in-FlushSecond : goal.flush_in-requires-in-FlushSecond
flush_in-requires-in-FlushSecond g c =
    let old = job_view g.R.Region.seen g.B.Block.seen g.B.Block.number c.args.self.now in
    record { unflushed = (turn_flush_second old (sym c.in-FlushSecond.is ∙ c.next.ensures)).1 }

pub invariant_of-self-in-FlushSecond : goal.invariant_of-self-in-FlushSecond
invariant_of-self-in-FlushSecond g c =
    let old = job_view g.R.Region.seen g.B.Block.seen g.B.Block.number c.args.self.now in
    record {
      sound = (made.flush_second {obeys_slots = g.R.Region.obeys_power} old (tile_in g.B.Block.seen g.B.Block.number c.flush_in-in-FlushSecond.new.tile) (sym c.in-FlushSecond.is ∙ c.next.ensures)
          c.args.self.now.sound c.flush_in-in-FlushSecond.ensures.flushes).sound;
    }

pub returns-in-FlushSecond-clause-makes : goal.returns-in-FlushSecond-clause-makes
returns-in-FlushSecond-clause-makes g c =
    let old = job_view g.R.Region.seen g.B.Block.seen g.B.Block.number c.args.self.now in
    (made.flush_second {obeys_slots = g.R.Region.obeys_power} old (tile_in g.B.Block.seen g.B.Block.number c.flush_in-in-FlushSecond.new.tile) (sym c.in-FlushSecond.is ∙ c.next.ensures)
    c.args.self.now.sound c.flush_in-in-FlushSecond.ensures.flushes).makes

pub returns-in-FlushSecond-clause-notes : goal.returns-in-FlushSecond-clause-notes
returns-in-FlushSecond-clause-notes g c =
    let old = job_view g.R.Region.seen g.B.Block.seen g.B.Block.number c.args.self.now in
    (made.flush_second {obeys_slots = g.R.Region.obeys_power} old (tile_in g.B.Block.seen g.B.Block.number c.flush_in-in-FlushSecond.new.tile) (sym c.in-FlushSecond.is ∙ c.next.ensures)
    c.args.self.now.sound c.flush_in-in-FlushSecond.ensures.flushes).notes

pub returns-in-FlushSecond-clause-ok : goal.returns-in-FlushSecond-clause-ok
returns-in-FlushSecond-clause-ok g c =
    let old = job_view g.R.Region.seen g.B.Block.seen g.B.Block.number c.args.self.now in
    (made.flush_second {obeys_slots = g.R.Region.obeys_power} old (tile_in g.B.Block.seen g.B.Block.number c.flush_in-in-FlushSecond.new.tile) (sym c.in-FlushSecond.is ∙ c.next.ensures)
    c.args.self.now.sound c.flush_in-in-FlushSecond.ensures.flushes).counted.ok

pub returns-in-FlushSecond-clause-err : goal.returns-in-FlushSecond-clause-err
returns-in-FlushSecond-clause-err g c =
    let old = job_view g.R.Region.seen g.B.Block.seen g.B.Block.number c.args.self.now in
    (made.flush_second {obeys_slots = g.R.Region.obeys_power} old (tile_in g.B.Block.seen g.B.Block.number c.flush_in-in-FlushSecond.new.tile) (sym c.in-FlushSecond.is ∙ c.next.ensures)
    c.args.self.now.sound c.flush_in-in-FlushSecond.ensures.flushes).counted.err

pub returns-in-FlushSecond-clause-cause : goal.returns-in-FlushSecond-clause-cause
returns-in-FlushSecond-clause-cause g c =
    with_before (faults_in g.B.Block.faults c.args.self.now.second) (faults_in g.B.Block.faults c.flush_in-in-FlushSecond.new.tile) (faults_in g.B.Block.faults c.args.self.now.first) c.flush_in-in-FlushSecond.result
    (blocks_alone (map g.R.Region.faults (regions_of c.args.self.now.request)) (faults_in g.B.Block.faults c.args.self.now.second) (faults_in g.B.Block.faults c.flush_in-in-FlushSecond.new.tile) c.flush_in-in-FlushSecond.result c.flush_in-in-FlushSecond.ensures.cause)

pub returns-in-Nothing-clause-ok : goal.returns-in-Nothing-clause-ok
returns-in-Nothing-clause-ok g c =
    let old = job_view g.R.Region.seen g.B.Block.seen g.B.Block.number c.args.self.now in
    let none : steps_left old ≡ 0 = turn_nothing old (sym c.in-Nothing.is ∙ c.next.ensures) in
    none ∙ sym (ap (λ (n : ℕ). n - 1) none)

pub returns-in-Nothing-clause-cause : goal.returns-in-Nothing-clause-cause
returns-in-Nothing-clause-cause g c =
    nothing_called (map g.R.Region.faults (regions_of c.args.self.now.request))
    (faults_in g.B.Block.faults c.args.self.now.first ++ faults_in g.B.Block.faults c.args.self.now.second) tt
