use Rattle.std.proofs.Common.{arith, ap, ◌∙◌, ◌++◌, ◌∷◌, [], refl, ◌≡◌, length}
use Rattle.cfs_tree.proofs.Holding.{numbered}
use Rattle.cfs_tree.proofs.store.SpanStore.add_number.Goals as goal

pub returns-clause-holds : goal.returns-clause-holds
returns-clause-holds c = λ root t h.
    let e : length c.as_slice-count.result.now ≡ length c.args.self.now.nodes.items = ap length c.as_slice-count.ensures.value in
    let room = c.in_ok-reserve.ensures.ok in
    let more = c.push-2.ensures.capacity in
    numbered _ _ root t h c.requires.none c.in_ok-push.ensures.items
    (c.in_ok-push-2.ensures.items ∙ ap (λ w. w ++ length c.as_slice-count.result.now ∷ []) (c.in_ok-reserve.ensures.items ∙ c.requires.none) ∙ ap (λ n. n ∷ []) e)
    refl (omega arith) (omega arith)
