use Rattle.std.proofs.Common.{arith, refl, ap}
use Rattle.cfs_tree.proofs.Turning.{right_once_joins, right_twice_joins}
use Rattle.cfs_tree.proofs.store.balance.turn_right.Goals as goal

pub link-requires-then-height_under-clause-fits : goal.link-requires-then-height_under-clause-fits
link-requires-then-height_under-clause-fits c =
    let l = c.requires.join.0 in
    let r = c.requires.join.1 in
    let j = c.requires.join.2 in
    let h = (right_once_joins c.args.nodes.now c.link.new.nodes _ c.args.at c.in-Some.top c.args.left c.args.right
    c.stored.result.node.left c.stored.result.node.right l r j c.in-Some.is
    (ap (λ v. v.node.left) c.stored.ensures) (ap (λ v. v.node.right) c.stored.ensures) c.requires.higher (omega arith)
    c.link.ensures refl).0 in
    omega arith

pub returns-then-height_under : goal.returns-then-height_under
returns-then-height_under c =
    λ l r j. (right_once_joins c.args.nodes.now c.link.new.nodes c.link-then-height_under.new.nodes c.args.at c.in-Some.top c.args.left c.args.right
    c.stored.result.node.left c.stored.result.node.right l r j c.in-Some.is
    (ap (λ v. v.node.left) c.stored.ensures) (ap (λ v. v.node.right) c.stored.ensures) c.requires.higher (omega arith)
    c.link.ensures c.link-then-height_under.ensures).1

pub link-requires-3-clause-fits : goal.link-requires-3-clause-fits
link-requires-3-clause-fits c =
    let l = c.requires.join.0 in
    let r = c.requires.join.1 in
    let j = c.requires.join.2 in
    let h = (right_twice_joins c.args.nodes.now c.link-2.new.nodes _ _ c.args.at c.in-Some.top c.in-Some-right.middle c.args.left c.args.right
    c.stored.result.node.left c.stored.result.node.right c.stored-2.result.node.left c.stored-2.result.node.right l r j c.in-Some.is
    (ap (λ v. v.node.left) c.stored.ensures) (ap (λ v. v.node.right) c.stored.ensures) c.in-Some-right.is
    (ap (λ v. v.node.left) c.stored-2.ensures) (ap (λ v. v.node.right) c.stored-2.ensures) c.requires.higher (omega arith)
    c.link-2.ensures refl refl).1.second in
    omega arith

pub link-requires-4-clause-fits : goal.link-requires-4-clause-fits
link-requires-4-clause-fits c =
    let l = c.requires.join.0 in
    let r = c.requires.join.1 in
    let j = c.requires.join.2 in
    let h = (right_twice_joins c.args.nodes.now c.link-2.new.nodes c.link-3.new.nodes _ c.args.at c.in-Some.top c.in-Some-right.middle c.args.left c.args.right
    c.stored.result.node.left c.stored.result.node.right c.stored-2.result.node.left c.stored-2.result.node.right l r j c.in-Some.is
    (ap (λ v. v.node.left) c.stored.ensures) (ap (λ v. v.node.right) c.stored.ensures) c.in-Some-right.is
    (ap (λ v. v.node.left) c.stored-2.ensures) (ap (λ v. v.node.right) c.stored-2.ensures) c.requires.higher (omega arith)
    c.link-2.ensures c.link-3.ensures refl).1.third in
    omega arith

pub returns : goal.returns
returns c =
    λ l r j. let t = right_twice_joins c.args.nodes.now c.link-2.new.nodes c.link-3.new.nodes c.link-4.new.nodes c.args.at c.in-Some.top c.in-Some-right.middle c.args.left c.args.right
    c.stored.result.node.left c.stored.result.node.right c.stored-2.result.node.left c.stored-2.result.node.right l r j c.in-Some.is
    (ap (λ v. v.node.left) c.stored.ensures) (ap (λ v. v.node.right) c.stored.ensures) c.in-Some-right.is
    (ap (λ v. v.node.left) c.stored-2.ensures) (ap (λ v. v.node.right) c.stored-2.ensures) c.requires.higher (omega arith)
    c.link-2.ensures c.link-3.ensures c.link-4.ensures in (t.0, t.1.joins)
