use Rattle.std.proofs.Common.{length, ap, arith}
use Rattle.std.proofs.lemmas.List.{length-map}
use Rattle.std.proofs.lemmas.List.Sorted.{length_permutation}
use Rattle.cfs_queue.specs.declared.kept.Kept.{Kept}
use Rattle.cfs_queue.specs.Queue.{places_in}
use Rattle.cfs_queue.specs.Rows.{seen_all, seen_as}
use Rattle.cfs_queue.proofs.RowLemmas.{places_all}
use Rattle.cfs_queue.proofs.rows.all_places.Goals as goal

pub copy_from_slice-requires : goal.copy_from_slice-requires
copy_from_slice-requires g c = omega (
  arith,
  ap length c.as_slice.ensures.value,
  length_permutation (places_in (seen_all c.args.rows.now)) c.sorted_places.result.items c.sorted_places.ensures.same,
  places_all (seen_all c.args.rows.now) c.requires.full,
  length-map c.args.rows.now (λ (row : Kept g.row.R.Denot g.R.Region). seen_as row),
  c.requires.sixteen,
)
