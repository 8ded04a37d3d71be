use Rattle.std.proofs.Common.{◌≡◌, ◌+◌, ◌-◌, ◌≤◌, length}
use Rattle.std.specs.Io.KnownBytes.{Consumes}
use Rattle.cfs_io.specs.declared.script.TheConstants.{LONGEST_SCRIPT}
use Rattle.cfs_io.proofs.script.read_script.Given as goal

abbrev pub invariant-pieces : goal.invariant-pieces
invariant-pieces g l = record {
  came : Consumes (g.S.Source.left l.initial.source) (g.S.Source.left l.source) l.bytes.items;
  short : length l.bytes.items ≤ LONGEST_SCRIPT;
  faults : g.S.Source.faults l.source ≡ g.S.Source.faults l.initial.source;
  reads : g.S.Source.reads l.source ≤ g.S.Source.reads l.initial.source + length l.bytes.items;
}

-- each turn but the last takes at least one byte
abbrev pub decreases-pieces : goal.decreases-pieces
decreases-pieces g l = LONGEST_SCRIPT + 1 - length l.bytes.items
