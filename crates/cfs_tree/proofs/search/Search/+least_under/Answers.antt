use Rattle.std.proofs.Common.{arith, ap, ◌∙◌, sym, subst, ◌≡◌, ◌-◌, ◌+◌, ℕ, Option}
use Rattle.cfs_tree.specs.Search.{lesser_of, Finds}
use Rattle.std.specs.Option.{option_copied}
use Rattle.cfs_tree.proofs.Searching.{pruned, node_known, node_missing, sided, side_lower, finds_left, finds_both}
use Rattle.cfs_tree.proofs.search.Search.+least_under.Goals as goal

pub returns-then-reach-self-clause-found : goal.returns-then-reach-self-clause-found
returns-then-reach-self-clause-found g t c = λ v can. pruned _ _ _ _ _ v can c.if-reach-self.true (omega arith)

pub returns-in_default-node-clause-found : goal.returns-in_default-node-clause-found
returns-in_default-node-clause-found g t c = λ v can.
    absurd (node_missing c.args.store.now c.in-Some.at c.args.at v (option_copied c.node.result) c.node.ensures.exact (ap option_copied c.in_default-node.is) c.in-Some.is can.2.tree)

pub least_under-left-requires : goal.least_under-left-requires
least_under-left-requires g t c =
    let v = c.requires.0 in
    let can = c.requires.1 in
    let n = node_known c.args.store.now c.in-Some.at c.args.at v (option_copied c.node.result) c.in-Some-node.node.now c.node.ensures.exact (ap option_copied c.in-Some-node.is) c.in-Some.is can.2.tree in
    let s = sided c.args.self c.args.store.now c.in-Some.at c.args.at c.in-Some-node.node.now c.args.reach v can c.in-Some.is n in
    let low = side_lower _ _ _ _ _ _ _ _ _ c.in-Some.is s.2 in
    λ κs sub. (let h = low.0 in omega arith, (sub, (s.0, s.2.left)))

pub returns-then-self-start_of-clause-found : goal.returns-then-self-start_of-clause-found
returns-then-self-start_of-clause-found g t c = λ v can.
    let n = node_known c.args.store.now c.in-Some.at c.args.at v (option_copied c.node.result) c.in-Some-node.node.now c.node.ensures.exact (ap option_copied c.in-Some-node.is) c.in-Some.is can.2.tree in
    let s = sided c.args.self c.args.store.now c.in-Some.at c.args.at c.in-Some-node.node.now c.args.reach v can c.in-Some.is n in
    finds_left c.args.self c.args.store.now c.in-Some.at c.args.at c.in-Some-node.node.now c.args.reach _ _ _ v s.0 s.1 can c.in-Some.is s.2
    (c.least_under-left.ensures.found s.0 s.2.left) (omega arith) (omega arith)

pub least_under-right-requires : goal.least_under-right-requires
least_under-right-requires g t c =
    let v = c.requires.0 in
    let can = c.requires.1 in
    let n = node_known c.args.store.now c.in-Some.at c.args.at v (option_copied c.node.result) c.in-Some-node.node.now c.node.ensures.exact (ap option_copied c.in-Some-node.is) c.in-Some.is can.2.tree in
    let s = sided c.args.self c.args.store.now c.in-Some.at c.args.at c.in-Some-node.node.now c.args.reach v can c.in-Some.is n in
    let low = side_lower _ _ _ _ _ _ _ _ _ c.in-Some.is s.2 in
    λ κs sub. (let h = low.1 in omega arith, (sub, (s.1, s.2.right)))

pub returns-clause-found : goal.returns-clause-found
returns-clause-found g t c = λ v can.
    let n = node_known c.args.store.now c.in-Some.at c.args.at v (option_copied c.node.result) c.in-Some-node.node.now c.node.ensures.exact (ap option_copied c.in-Some-node.is) c.in-Some.is can.2.tree in
    let s = sided c.args.self c.args.store.now c.in-Some.at c.args.at c.in-Some-node.node.now c.args.reach v can c.in-Some.is n in
    let e : c.lesser-2.result ≡ lesser_of c.least_under-left.result (lesser_of c.own.result c.least_under-right.result) =
    c.lesser-2.ensures ∙ ap (λ w. lesser_of c.least_under-left.result w) c.lesser.ensures in
    let steps : c.least_under-right.new.steps - c.args.steps.now ≡ (c.least_under-left.new.steps - c.node.new.steps) + (c.least_under-right.new.steps - c.least_under-left.new.steps) + 1 =
    let a = c.node.ensures.cost in let b = c.least_under-left.ensures.later in let d = c.least_under-right.ensures.later in omega arith in
    let P : Option ℕ → Type 0 = λ w. Finds c.args.self c.args.store.now c.args.at c.args.reach (c.least_under-right.new.steps - c.args.steps.now) w v in
    subst P (sym e) (finds_both c.args.self c.args.store.now c.in-Some.at c.args.at c.in-Some-node.node.now c.args.reach _ _ _ _ _ _ v s.0 s.1 can c.in-Some.is s.2
    (c.least_under-left.ensures.found s.0 s.2.left) (c.least_under-right.ensures.found s.1 s.2.right) c.own.ensures c.if-reach-self.false
    (let a = c.if-self-start_of.false in let b = c.start_of.ensures in omega arith) steps)
