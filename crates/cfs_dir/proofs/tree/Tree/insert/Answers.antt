use Rattle.std.proofs.Common.{◌≡◌, ◌+◌, cond}
use Rattle.std.specs.Prelude.{Some, is_some}
use Rattle.std.specs.HashMap.{get, Updates}
use Rattle.indexmap.specs.IndexMap.{index_map_len}
use Rattle.cfs_dir.specs.Table.{same_child}
use Rattle.cfs_dir.proofs.Changed.{joined-undoable, joined-undone, joins-free, joins-unused, joins-within, IsTable-joined, IsTable-kept, seen-joined}
use Rattle.cfs_dir.proofs.Numbers.{if_ok, on_ok}
use Rattle.cfs_dir.proofs.Indexed.{key_of}
use Rattle.cfs_dir.proofs.tree.Tree.insert.Goals as goal

pub put-requires-clause-within : goal.put-requires-clause-within
put-requires-clause-within c = joins-within c.args.self.now c.args.node.now c.requires

pub put-requires-clause-free : goal.put-requires-clause-free
put-requires-clause-free c =
    joins-free c.self.inside.nodes c.self.inside.index c.self.inside.next c.args.self.now c.args.node.now c.self.invariant c.self.view_is c.requires

pub put-requires-clause-unused : goal.put-requires-clause-unused
put-requires-clause-unused c =
    joins-unused c.self.inside.nodes c.self.inside.index c.self.inside.next c.args.self.now c.args.node.now c.self.invariant c.self.view_is c.requires

pub invariant_of-self-2 : goal.invariant_of-self-2
invariant_of-self-2 c =
    let table = IsTable-kept c.self.inside.nodes c.self.inside.index c.reserve.new.self c.self.inside.next c.self.invariant c.in_ok-reserve.ensures.entries in
    let updated = on_ok (Updates same_child c.reserve.new.self c.insert.new.self (key_of c.args.node.now) (Some c.args.node.now.rec))
    c.insert.result c.unwrap.result c.unwrap.ensures c.insert.ensures.updates in
    IsTable-joined c.self.inside.nodes c.reserve.new.self c.insert.new.self c.self.inside.next c.put.new.self c.args.self.now c.args.node.now
    table c.self.view_is c.requires c.in_ok-put.ensures.put updated.0
    c.unwrap.result (if_ok (λ old. old ≡ get same_child c.reserve.new.self (key_of c.args.node.now)) c.insert.result c.unwrap.result c.unwrap.ensures c.insert.ensures.old)
    (if_ok (λ old. index_map_len c.insert.new.self ≡ index_map_len c.reserve.new.self + cond (is_some old) 0 1) c.insert.result c.unwrap.result c.unwrap.ensures c.insert.ensures.len)

pub returns-clause-added : goal.returns-clause-added
returns-clause-added c =
    seen-joined c.self.inside.nodes c.self.inside.index c.self.inside.next c.put.new.self c.args.self.now c.args.node.now
    c.self.invariant c.self.view_is c.requires c.in_ok-put.ensures.put

pub returns-clause-undoable : goal.returns-clause-undoable
returns-clause-undoable c =
    joined-undoable c.self.inside.nodes c.self.inside.index c.self.inside.next c.put.new.self c.args.self.now c.args.node.now
    c.self.invariant c.self.view_is c.requires c.in_ok-put.ensures.put

pub returns-clause-undone : goal.returns-clause-undone
returns-clause-undone c =
    joined-undone c.self.inside.nodes c.self.inside.index c.self.inside.next c.put.new.self c.args.self.now c.args.node.now
    c.self.invariant c.self.view_is c.requires c.in_ok-put.ensures.put
