use Rattle.std.proofs.Math.Logic.{∥∥₁_elim}
use Rattle.cfs_job.specs.Jobs.{first_in, job_view}
use Rattle.cfs_job.specs.Steps.{is_unflushed, is_unwritten}
use Rattle.cfs_job.specs.Views.{payload_seen}
use Rattle.cfs_job.proofs.JobLemmas.{durable_prop, is_durable, none_unflushed, opened_in, opened_prop, outside_prop, reads_noted, reads_prop, stays_outside}
use Rattle.cfs_job.proofs.MadeLemmas.{full_tile}
use Rattle.cfs_job.proofs.job.Job.stands.Goals as goal

pub returns-clause-opened : goal.returns-clause-opened
returns-clause-opened g c =
    let job = job_view g.R.Region.seen g.B.Block.seen g.B.Block.number c.args.self.now in
    ∥∥₁_elim c.args.self.now.sound (opened_prop (first_in c.args.self.now) job.slots job.place)
    (λ k. opened_in g.B.Block.seen g.B.Block.number job.slots job.place c.args.self.now.first k.opened)

pub returns-clause-outside_first : goal.returns-clause-outside_first
returns-clause-outside_first g c =
    let job = job_view g.R.Region.seen g.B.Block.seen g.B.Block.number c.args.self.now in
    ∥∥₁_elim c.args.self.now.sound (outside_prop job.span job.first) (λ k. stays_outside (payload_seen job.slots) job.span job.first k.of_first)

pub returns-clause-reads_first : goal.returns-clause-reads_first
returns-clause-reads_first g c =
    let job = job_view g.R.Region.seen g.B.Block.seen g.B.Block.number c.args.self.now in
    ∥∥₁_elim c.args.self.now.sound (reads_prop (payload_seen job.slots) job.span job.first) (λ k. reads_noted (payload_seen job.slots) job.span job.first k.of_first)

pub returns-clause-durable_first : goal.returns-clause-durable_first
returns-clause-durable_first g c =
    let job = job_view g.R.Region.seen g.B.Block.seen g.B.Block.number c.args.self.now in
    λ e. let none = none_unflushed (is_unwritten job.first) (is_unwritten job.second) (is_unflushed job.first) (is_unflushed job.second) e in
    ∥∥₁_elim c.args.self.now.sound (durable_prop (payload_seen job.slots) job.span job.first) (λ k. is_durable (payload_seen job.slots) job.span job.first none.0 k.of_first)

pub returns-clause-outside_second : goal.returns-clause-outside_second
returns-clause-outside_second g c =
    let job = job_view g.R.Region.seen g.B.Block.seen g.B.Block.number c.args.self.now in
    ∥∥₁_elim c.args.self.now.sound (outside_prop job.span job.second) (λ k. stays_outside (payload_seen job.slots) job.span job.second k.of_second)

pub returns-clause-reads_second : goal.returns-clause-reads_second
returns-clause-reads_second g c =
    let job = job_view g.R.Region.seen g.B.Block.seen g.B.Block.number c.args.self.now in
    ∥∥₁_elim c.args.self.now.sound (reads_prop (payload_seen job.slots) job.span job.second) (λ k. reads_noted (payload_seen job.slots) job.span job.second k.of_second)

pub returns-clause-durable_second : goal.returns-clause-durable_second
returns-clause-durable_second g c =
    let job = job_view g.R.Region.seen g.B.Block.seen g.B.Block.number c.args.self.now in
    λ e. let none = none_unflushed (is_unwritten job.first) (is_unwritten job.second) (is_unflushed job.first) (is_unflushed job.second) e in
    ∥∥₁_elim c.args.self.now.sound (durable_prop (payload_seen job.slots) job.span job.second) (λ k. is_durable (payload_seen job.slots) job.span job.second none.1 k.of_second)

pub returns-clause-full_first : goal.returns-clause-full_first
returns-clause-full_first g c =
    full_tile g.B.Block.seen g.B.Block.number g.met.B.Block.full c.args.self.now.first

pub returns-clause-full_second : goal.returns-clause-full_second
returns-clause-full_second g c =
    full_tile g.B.Block.seen g.B.Block.number g.met.B.Block.full c.args.self.now.second
