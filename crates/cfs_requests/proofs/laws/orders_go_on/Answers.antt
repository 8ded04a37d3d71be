use Rattle.cfs_requests.proofs.Orders.{orders-go-on}
use Rattle.cfs_requests.proofs.laws.orders_go_on.Goals as goal

pub returns : goal.returns
returns c = orders-go-on
