use Rattle.std.proofs.Common.{◌≡◌, take}
use Rattle.cfs_core.specs.Run.{IsRun, after_all}
use Rattle.cfs_events.proofs.run.run_events.Given as goal

abbrev pub invariant-loop-at : goal.invariant-loop-at
invariant-loop-at l = record {
  run : IsRun l.initial.core (take l.at l.events);
  now : l.core ≡ after_all l.initial.core (take l.at l.events);
}
