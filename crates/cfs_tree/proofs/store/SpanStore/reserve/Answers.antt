use Rattle.std.proofs.Common.{refl}
use Rattle.cfs_tree.specs.declared.store.SpanStore.{SpanStore}
use Rattle.cfs_tree.proofs.Holding.{Holds-numbers, HoldsStill-then}
use Rattle.cfs_tree.proofs.store.SpanStore.reserve.Goals as goal

pub returns-in_err-add_number-clause-holds : goal.returns-in_err-add_number-clause-holds
returns-in_err-add_number-clause-holds c = λ root t h.
    let mid : SpanStore = record { nodes = c.args.self.now.nodes; free = c.args.self.now.free; numbers = c.reserve.new.self } in
    HoldsStill-then c.args.self.now mid c.add_number.new.self root t (Holds-numbers c.args.self.now mid root t h refl refl c.in_ok-reserve.ensures.entries.2)
    (λ b. c.add_number.ensures.holds root t b)

pub returns-in_ok-add_number-clause-holds : goal.returns-in_ok-add_number-clause-holds
returns-in_ok-add_number-clause-holds c = λ root t h.
    let mid : SpanStore = record { nodes = c.args.self.now.nodes; free = c.args.self.now.free; numbers = c.reserve.new.self } in
    HoldsStill-then c.args.self.now mid c.add_number.new.self root t (Holds-numbers c.args.self.now mid root t h refl refl c.in_ok-reserve.ensures.entries.2)
    (λ b. c.add_number.ensures.holds root t b)
