use Rattle.std.proofs.Common.{arith}
use Rattle.cfs_tree.proofs.Turning.{even_joins}
use Rattle.cfs_tree.proofs.store.balance.join.Goals as goal

pub returns-else-right_height-left_height : goal.returns-else-right_height-left_height
returns-else-right_height-left_height c =
    λ l r j. even_joins _ _ _ _ _ l r j (omega arith, omega arith) c.link.ensures
