-- The moments within an event.
use Rattle.std.specs.Prelude.{ℕ, Bool, true, false, List, [], ◌∷◌}
use Rattle.cfs_core.specs.declared.flag.Flag.{Flag}
use Rattle.cfs_core.specs.declared.flag.Flag.TheVariants.{Off, Unsure}
use Rattle.cfs_core.specs.declared.event.Event.{Event}
use Rattle.cfs_core.specs.declared.event.Event.TheVariants as events
use Rattle.cfs_core.specs.declared.event.End.{End}
use Rattle.cfs_core.specs.declared.event.End.TheVariants as ends
use Rattle.cfs_core.specs.declared.event.SizeEnd.{SizeEnd}
use Rattle.cfs_core.specs.declared.event.SizeEnd.TheVariants as sizes
use Rattle.cfs_core.specs.declared.track.Track.{Track}
use Rattle.cfs_core.specs.declared.inode_core.Core.{Core}
use Rattle.cfs_core.specs.Words.{track}

-- the size word is being set, and all else is as it was
abbrev pub setting_size : ℕ → Track → Event
setting_size place t = events.Finish place (ends.Back sizes.Either t.gate t.applied)

-- the size word is set, and the gate is being closed
abbrev pub closing_gate : ℕ → Event
closing_gate place = events.Finish place (ends.Back sizes.Set Unsure true)

-- what fails with a closed gate was closing it: then it may be open or closed
abbrev pub failing_gate : ℕ → SizeEnd → Flag → Bool → List Event
failing_gate place size Off applied = events.Finish place (ends.Back size Unsure applied) ∷ []
failing_gate place size _ applied = []

-- A finish that sets the size word and then fails at the gate has set the size word too.
abbrev pub within_finish : ℕ → Track → End → List Event
within_finish place t ends.Retired = setting_size place t ∷ closing_gate place ∷ []
within_finish place t ends.More = []
within_finish place t (ends.Back sizes.AsBefore gate applied) =
    failing_gate place sizes.AsBefore gate applied
within_finish place t (ends.Back sizes.Set gate applied) =
    setting_size place t ∷ failing_gate place sizes.Set gate applied
within_finish place t (ends.Back sizes.Either gate applied) =
    failing_gate place sizes.Either gate applied

-- The events that failed in whose cores the moments of an event's device steps lie, one after
-- another: a step under way is one that may or may not be kept.
abbrev pub within : Core → Event → List Event
within core (events.Tag block kept) = events.Tag block false ∷ []
within core (events.Admit entry grant kept) = events.Admit entry grant false ∷ []
within core (events.Mark place by kept) = events.Mark place by false ∷ []
within core (events.Finish place end) = within_finish place (track core.tracks place) end
within core (events.Trim block kept) = events.Trim block false ∷ []
within core _ = []
