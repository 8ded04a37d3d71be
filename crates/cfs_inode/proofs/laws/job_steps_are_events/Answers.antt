use Rattle.cfs_inode.proofs.JobSteps.{job-steps}
use Rattle.cfs_inode.proofs.laws.job_steps_are_events.Goals as goal

pub returns : goal.returns
returns c = job-steps
