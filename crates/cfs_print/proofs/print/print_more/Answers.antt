use Rattle.cfs_print.proofs.Parts.{places_more}
use Rattle.cfs_print.proofs.print.print_more.Goals as goal

pub places-preserved : goal.places-preserved
places-preserved c = places_more _ _ _ c.args.places.now c.places.place-index c.places-test.true c.places.invariant c.in_ok-write.ensures.bytes
