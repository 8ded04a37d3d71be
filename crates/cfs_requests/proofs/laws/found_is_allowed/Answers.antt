use Rattle.cfs_requests.proofs.Allowed.{found-is-allowed}
use Rattle.cfs_requests.proofs.laws.found_is_allowed.Goals as goal

pub returns : goal.returns
returns c = found-is-allowed
