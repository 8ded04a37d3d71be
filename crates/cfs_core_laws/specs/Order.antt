-- The blocks of a job in their order.
use Rattle.std.specs.Prelude.{Bool, true, false, Option, Some, None, nat_lt}
use Rattle.cfs_core.specs.declared.state.Lease.{Lease}
use Rattle.cfs_core.specs.declared.state.State.{State}
use Rattle.cfs_core.specs.declared.state.State.TheVariants.{Out}

-- there is a second only behind a first
abbrev pub ascends : Option Lease → Option Lease → Bool
ascends first None = true
ascends None (Some two) = false
ascends (Some one) (Some two) = nat_lt one.block two.block

-- where it is out, its job's blocks ascend
abbrev pub is_out_sorted : State → Bool
is_out_sorted (Out job) = ascends job.first job.second
is_out_sorted _ = true
