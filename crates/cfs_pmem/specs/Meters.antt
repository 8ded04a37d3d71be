-- A meter as the contracts of its own calls see it.
use Rattle.std.specs.Prelude.{List}
use Rattle.cfs_pmem.specs.declared.trace.Asked.{Asked}
use Rattle.cfs_pmem.specs.declared.meter.Meter.{Meter}

-- all that it was asked and told so far
abbrev pub asked_of : Meter → List Asked
asked_of meter = meter.trace
