use Rattle.std.proofs.Common.{rules}
use Rattle.std.proofs.lemmas.List.Sorted.{IsNonDecreasingBy-from_sort_by_key}
use Rattle.cfs_gather.specs.Gathered.{region_device}
use Rattle.cfs_gather.proofs.all.sort_regions.Goals as goal

pub returns-clause-ascending : goal.returns-clause-ascending
returns-clause-ascending c =
    IsNonDecreasingBy-from_sort_by_key region_device _ c.sort_unstable_by_key.ensures.sorted
    (search rules)
