use Rattle.std.proofs.Common.{arith}
use Rattle.cfs_extent.proofs.Places.{seat_first, seat_of, seat_within}
use Rattle.cfs_extent.proofs.runs.take_from.Goals as goal

pub cut-requires-clause-there : goal.cut-requires-clause-there
cut-requires-clause-there c =
    omega (
      arith,
      seat_within _ _ _ _ c.requires.runs
          (seat_of _ _ _ _ _ c.deref.ensures.value c.seek-seat.ensures) c.requires.there,
    )

pub cut-requires-clause-first : goal.cut-requires-clause-first
cut-requires-clause-first c run is =
    seat_first _ _ _ _ run c.requires.runs
    (seat_of _ _ _ _ _ c.deref.ensures.value c.seek-seat.ensures) c.requires.there is
