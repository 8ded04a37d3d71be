use Rattle.std.proofs.Common.{◌≡◌, take}
use Rattle.cfs_top.specs.Play.{PlaysAll}
use Rattle.cfs_top.proofs.play.play_script.Given as goal

abbrev pub invariant-lines : goal.invariant-lines
invariant-lines g l = record {
  played : PlaysAll l.initial.world (take l.line-index l.line-items) l.world (g.K.Sink.written l.initial.output) (g.K.Sink.written l.output);
  faults : g.K.Sink.faults l.output ≡ g.K.Sink.faults l.initial.output;
}
