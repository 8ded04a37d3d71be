use Rattle.std.proofs.Common.{◌∷◌, subst}
use Rattle.std.specs.List.Sorted.{IsPermutation}
use Rattle.std.specs.BinaryHeap.{heap_items}
use Rattle.std.proofs.lemmas.List.Sorted.{IsPermutation-map}
use Rattle.cfs_pool.specs.Pool.{Stock, items_of}
use Rattle.cfs_pool.proofs.pool.Pool.give.Goals as goal

pub returns-clause-given : goal.returns-clause-given
returns-clause-given g c =
    let P : Stock _ → Type 0 = λ s. IsPermutation (c.args.item ∷ s.free) (items_of (heap_items c.push.new.self)) in
    subst P c.self.view_is
    (IsPermutation-map (λ r. r.item) (record { item = c.args.item } ∷ heap_items c.self.inside.heap)
    (heap_items c.push.new.self) c.in-Ok.ensures.permutation)
