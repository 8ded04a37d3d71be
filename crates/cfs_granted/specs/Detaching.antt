-- A grant is taken away.
use Rattle.std.specs.Prelude.{ℕ, None, List, [], ◌∷◌, map}
use Rattle.cfs_core.specs.declared.event.Event.{Event}
use Rattle.cfs_core.specs.declared.event.Event.TheVariants as events
use Rattle.cfs_granted.specs.Asking.{dropped}
use Rattle.cfs_granted.specs.Readers.{places_under}
use Rattle.cfs_granted.specs.Rows.{without_grant}
use Rattle.cfs_granted.specs.View.{LifeView}

-- the reads at these places are dropped, one after another
abbrev pub all_dropped : List ℕ → LifeView → LifeView
all_dropped [] view = view
all_dropped (place ∷ places) view = all_dropped places (dropped place view)

-- the reads under it are dropped, and then it is gone
abbrev pub ungranted : ℕ → LifeView → LifeView
ungranted number view = record view { grants = without_grant number view.grants }

abbrev pub detached : ℕ → LifeView → LifeView
detached number view = ungranted number (all_dropped (places_under number view.readers) view)

abbrev pub drop_events : List ℕ → List Event
drop_events places = map (λ place. events.Serve place None) places

abbrev pub detach_events : ℕ → LifeView → List Event
detach_events number view = drop_events (places_under number view.readers)
