use Rattle.cfs_meaning.proofs.LineLogs.{logs-follow}
use Rattle.cfs_meaning.proofs.laws.logs_follow_lines.Goals as goal

pub returns : goal.returns
returns c = logs-follow
