-- What stands at a number, as it is kept.
use Rattle.std.specs.Prelude.{List, map}
use Rattle.cfs_queue.specs.declared.kept.Kept.{Kept}
use Rattle.cfs_queue.specs.declared.kept.Kept.TheVariants.{Free, Out}
use Rattle.cfs_queue.specs.Queue.{Held, free, out}

abbrev pub seen_as : {R : Type 0} {g : _} → Kept R g → Held R
seen_as (Free slot) = free slot.region
seen_as (Out place) = out place

abbrev pub seen_all : {R : Type 0} {g : _} → List (Kept R g) → List (Held R)
seen_all {R} {g} rows = map (λ (row : Kept R g). seen_as row) rows
