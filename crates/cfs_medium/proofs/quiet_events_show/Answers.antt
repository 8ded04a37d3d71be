use Rattle.cfs_medium.proofs.QuietEvents.{quiet-events-show}
use Rattle.cfs_medium.proofs.quiet_events_show.Goals as goal

pub returns : goal.returns
returns c = quiet-events-show
