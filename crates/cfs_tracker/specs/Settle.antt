-- A request is in doubt, and is closed.
use Rattle.std.specs.Prelude.{Option, Some, None}
use Rattle.cfs_tracker.specs.declared.in_doubt.InDoubt.{InDoubt}
use Rattle.cfs_tracker.specs.View.{TrackerView}

-- the slots of the request in doubt
abbrev pub doubt_slots : {D : Type 0} → Option (InDoubt D) → Option D
doubt_slots None = None
doubt_slots (Some doubt) = doubt.slots

abbrev pub with_slots : {D : Type 0} → Option D → Option (InDoubt D) → Option (InDoubt D)
with_slots slots None = None
with_slots slots (Some doubt) = Some (record doubt { slots = slots })

-- they are taken out to be closed
abbrev pub settling : {S D B : Type 0} → TrackerView S D B → TrackerView S D B
settling view = record view { doubt = with_slots None view.doubt }

-- they could not be closed, and come back
abbrev pub unsettled : {S D B : Type 0} → D → TrackerView S D B → TrackerView S D B
unsettled slots view = record view { doubt = with_slots (Some slots) view.doubt }

-- they were closed
abbrev pub settled : {S D B : Type 0} → TrackerView S D B → TrackerView S D B
settled view = record view { doubt = None }
