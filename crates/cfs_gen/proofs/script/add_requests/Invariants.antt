use Rattle.std.proofs.Common.{◌≡◌, ◌*◌, ◌++◌}
use Rattle.cfs_gen.specs.Draws.{state_after}
use Rattle.cfs_gen.specs.Workload.{requests_below}
use Rattle.cfs_gen.proofs.script.add_requests.Given as goal

abbrev pub invariant-requests : goal.invariant-requests
invariant-requests l = record {
  forms : l.draft ≡ l.initial.draft ++ requests_below l.number l.index;
  state : l.draws ≡ state_after l.number (4 * l.index);
}
