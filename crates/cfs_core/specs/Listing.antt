-- The queue of a grant: what was admitted for it and is not closed.
use Rattle.std.specs.Prelude.{ℕ, ◌+◌, ◌==◌, Bool, true, false, not, if◌then◌else◌, Option, Some, None, List, [], ◌∷◌, ◌++◌, filter}
use Rattle.cfs_core.specs.declared.state.State.{State}
use Rattle.cfs_core.specs.declared.state.State.TheVariants.{Waiting, Out, Noop, Unserved, Closed}
use Rattle.cfs_core.specs.declared.track.Track.{Track}
use Rattle.cfs_core.specs.declared.doubt.Doubt.{Doubt}
use Rattle.cfs_core.specs.declared.event.Event.{Event}
use Rattle.cfs_core.specs.declared.event.Event.TheVariants as events
use Rattle.cfs_core.specs.declared.event.End.{End}
use Rattle.cfs_core.specs.declared.event.End.TheVariants as ends
use Rattle.cfs_core.specs.declared.inode_core.Core.{Core}

-- how a request of the queue stands
pub data Letter : Type 0 where
  -- waiting, out, and a no-op
  waits : Letter
  goes : Letter
  idles : Letter
  -- in doubt
  doubtful : Letter

-- of a change that is waiting, out or a no-op
abbrev pub letter_of : State → Option Letter
letter_of Waiting = Some waits
letter_of (Out job) = Some goes
letter_of Noop = Some idles
letter_of Unserved = None
letter_of Closed = None

abbrev pub own_letter : ℕ → Track → Option Letter
own_letter grant t = if t.grant == grant then letter_of t.state else None

-- the place, where there is a letter
abbrev pub item : ℕ → Option Letter → List (ℕ × Letter)
item place None = []
item place (Some letter) = (place, letter) ∷ []

-- the changes of a grant that are not closed; the places begin with that number
abbrev pub listed : ℕ → ℕ → List Track → List (ℕ × Letter)
listed grant place [] = []
listed grant place (t ∷ ts) = item place (own_letter grant t) ++ listed grant (place + 1) ts

abbrev pub listed_doubt : ℕ → Option Doubt → List (ℕ × Letter)
listed_doubt grant None = []
listed_doubt grant (Some doubt) =
    if doubt.grant == grant then (doubt.entry.place, doubtful) ∷ [] else []

-- ascending by place, and last the request in doubt, at the number in its gate
abbrev pub listing : Core → ℕ → List (ℕ × Letter)
listing core grant = listed grant 1 core.tracks ++ listed_doubt grant core.doubt

-- ---- what an event makes of a listing

-- another letter at the place, or none
abbrev pub relettered : ℕ → Option Letter → List (ℕ × Letter) → List (ℕ × Letter)
relettered place letter [] = []
relettered place letter (first ∷ items) =
    (if first.0 == place then item place letter else first ∷ []) ++ relettered place letter items

abbrev pub is_doubtful : Letter → Bool
is_doubtful doubtful = true
is_doubtful _ = false

abbrev pub after_finish : End → Option Letter
after_finish ends.Retired = None
after_finish _ = Some waits

-- An admitted change comes last. It leaves when it is retired or skipped, when nothing is in doubt
-- any more, and when the inode is mounted.
abbrev pub relisted : ℕ → Event → List (ℕ × Letter) → List (ℕ × Letter)
relisted grant (events.Admit entry own kept) items =
    if own == grant then items ++ (entry.place, if kept then waits else doubtful) ∷ [] else items
relisted grant (events.Mark place by kept) items =
    if kept then relettered place (Some idles) items else items
relisted grant (events.Dispatch place) items = relettered place (Some goes) items
relisted grant (events.Finish place end) items = relettered place (after_finish end) items
relisted grant (events.Skip place) items = relettered place None items
relisted grant events.Settle items = filter (λ i. not (is_doubtful i.1)) items
relisted grant events.Mount items = []
relisted grant _ items = items
