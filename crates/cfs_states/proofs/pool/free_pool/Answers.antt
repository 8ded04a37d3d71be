use Rattle.std.proofs.lemmas.List.Sorted.{IsPermutation-map}
use Rattle.cfs_states.proofs.pool.free_pool.Goals as goal

pub returns-clause-free : goal.returns-clause-free
returns-clause-free c =
    IsPermutation-map (λ one. one.block) c.args.free.items c.in_ok-pool.pool.free
    c.in_ok-pool.ensures.free
