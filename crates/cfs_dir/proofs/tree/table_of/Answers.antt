use Rattle.std.proofs.Common.{arith}
use Rattle.cfs_dir.proofs.Listed.{IsTableOf-empty, IsTableOf-next, next-free, next-unused, next-within}
use Rattle.cfs_dir.proofs.tree.table_of.Goals as goal

pub loop-node-init : goal.loop-node-init
loop-node-init c =
    IsTableOf-empty c.in_ok-table.table c.new-index.result c.in_ok-table.ensures c.new-index.ensures.empty

pub put-requires-clause-within : goal.put-requires-clause-within
put-requires-clause-within c =
    next-within c.loop-node.table c.loop-node.index c.args.nodes.now c.loop-node.node-index c.node-item.result
    c.requires (omega arith) c.node-item.is c.loop-node.invariant

pub put-requires-clause-free : goal.put-requires-clause-free
put-requires-clause-free c =
    next-free c.loop-node.table c.loop-node.index c.args.nodes.now c.loop-node.node-index c.node-item.result
    c.requires (omega arith) c.node-item.is c.loop-node.invariant

pub put-requires-clause-unused : goal.put-requires-clause-unused
put-requires-clause-unused c =
    next-unused c.loop-node.table c.loop-node.index c.args.nodes.now c.loop-node.node-index c.node-item.result
    c.requires (omega arith) c.node-item.is c.loop-node.invariant

pub loop-node-preserved : goal.loop-node-preserved
loop-node-preserved c =
    IsTableOf-next c.loop-node.table c.loop-node.index c.args.nodes.now c.loop-node.node-index c.node-item.result
    c.requires (omega arith) c.node-item.is c.loop-node.invariant
    c.insert.new.self c.put.new.self c.in_ok-put.ensures.put c.in_ok-insert.ensures.updates.0
    c.in_ok-insert.field-0 c.in_ok-insert.ensures.old c.in_ok-insert.ensures.len
