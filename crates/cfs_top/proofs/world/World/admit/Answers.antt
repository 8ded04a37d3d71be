use Rattle.cfs_file.proofs.Logs.{file_of-append}
use Rattle.cfs_top.proofs.world.World.admit.Goals as goal

-- the file after one entry more is the file before it, taken through the entry's request
pub invariant_of-self-2 : goal.invariant_of-self-2
invariant_of-self-2 c =
    rw c.in_ok-push.ensures.items (rw c.reserve.ensures.items
    (rw file_of-append (rw (← c.self.invariant) c.in_ok-apply.ensures.ok)))
