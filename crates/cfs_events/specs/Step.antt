-- What one event does, and when a list of them is refused.
use Rattle.std.specs.Prelude.{◌≡◌, ℕ, true, false, Result, Ok, Err}
use Rattle.cfs_file.specs.declared.entry.Entry.{Entry}
use Rattle.cfs_file.specs.declared.span.Span.{Span}
use Rattle.cfs_core.specs.declared.event.Event.{Event}
use Rattle.cfs_core.specs.declared.inode_core.Core.{Core}
use Rattle.cfs_core.specs.May.{case, may, may_admit, span_now}
use Rattle.cfs_core.specs.After.{after}
use Rattle.cfs_events.specs.declared.event_refusal.EventRefusal.{EventRefusal}
use Rattle.cfs_events.specs.declared.event_refusal.EventRefusal.TheVariants as refusals
use Rattle.cfs_events.specs.declared.step_refusal.StepRefusal.{StepRefusal}
use Rattle.cfs_events.specs.declared.step_refusal.StepRefusal.TheVariants as steps

-- what one event does, as far as the phase allows it
abbrev pub Does : Result (Unit {0}) StepRefusal → Core → Event → Core → Type 0
Does (Ok u) old event new = (case old event ≡ true) × (new ≡ after old event)
Does (Err steps.NoCase) old event new = case old event ≡ false
Does (Err steps.NoMemory) old event new = Unit {0}

-- what one event does
abbrev pub Makes : Result (Unit {0}) StepRefusal → Core → Event → Core → Type 0
Makes (Ok u) old event new = (may old event ≡ true) × (new ≡ after old event)
Makes (Err steps.NoCase) old event new = may old event ≡ false
Makes (Err steps.NoMemory) old event new = Unit {0}

-- the span of a change that may be admitted
abbrev pub IsSpanToAdmit : Result Span StepRefusal → Core → Entry → Type 0
IsSpanToAdmit (Ok s) core entry = (may_admit core entry ≡ true) × (s ≡ span_now core entry.request)
IsSpanToAdmit (Err steps.NoCase) core entry = may_admit core entry ≡ false
IsSpanToAdmit (Err steps.NoMemory) core entry = Unit {0}

-- a fact of the event that was refused
abbrev pub OnRefused : EventRefusal → (ℕ → Type 0) → Type 0
OnRefused (refusals.Refused at) holds = holds at
OnRefused refusals.NoMemory holds = Unit {0}
