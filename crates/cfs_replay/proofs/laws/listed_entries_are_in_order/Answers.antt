use Rattle.cfs_replay.proofs.Orders.{listed-in-order}
use Rattle.cfs_replay.proofs.laws.listed_entries_are_in_order.Goals as goal

pub returns : goal.returns
returns c = listed-in-order
