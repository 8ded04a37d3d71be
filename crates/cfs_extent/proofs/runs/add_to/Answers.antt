use Rattle.std.proofs.Common.{arith, ◌∙◌}
use Rattle.cfs_extent.proofs.Places.{before_below, before_within, inserted, seat_of, starts_past}
use Rattle.cfs_extent.proofs.RunLemmas.{more_numbers}
use Rattle.cfs_extent.proofs.runs.add_to.Goals as goal

pub join-requires-clause-past : goal.join-requires-clause-past
join-requires-clause-past c =
    starts_past _ _ _ _ c.requires.runs (seat_of _ _ _ _ _ c.deref.ensures.value c.seek-seat.ensures)
    c.requires.absent

pub join-requires-clause-room : goal.join-requires-clause-room
join-requires-clause-room c = omega (arith, more_numbers _ _ c.requires.runs, c.requires.room)

pub returns-clause-within : goal.returns-clause-within
returns-clause-within c =
    before_within _ _ _ _ (seat_of _ _ _ _ _ c.deref.ensures.value c.seek-seat.ensures)

pub returns-clause-below : goal.returns-clause-below
returns-clause-below c =
    before_below _ _ _ _ c.requires.runs
    (seat_of _ _ _ _ _ c.deref.ensures.value c.seek-seat.ensures)

pub returns-clause-numbers : goal.returns-clause-numbers
returns-clause-numbers c =
    c.join.ensures.numbers
    ∙ inserted _ _ _ _ (seat_of _ _ _ _ _ c.deref.ensures.value c.seek-seat.ensures)
