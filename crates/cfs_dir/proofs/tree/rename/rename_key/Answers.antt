use Rattle.std.proofs.Common.{◌≡◌, ◌+◌, cond, arith}
use Rattle.std.specs.Prelude.{Some, is_some}
use Rattle.std.specs.HashMap.{get, Updates}
use Rattle.indexmap.specs.IndexMap.{index_map_len}
use Rattle.cfs_dir.specs.Table.{same_child}
use Rattle.cfs_dir.proofs.Filled.{IsIndexOf-renamed}
use Rattle.cfs_dir.proofs.Numbers.{if_ok, on_ok}
use Rattle.cfs_dir.proofs.tree.rename.rename_key.Goals as goal

pub unwrap-requires : goal.unwrap-requires
unwrap-requires c =
    let capacity = c.capacity.ensures in let len = c.len.ensures.len in let other = c.if-capacity-len.false in
    let room = c.swap_remove.ensures.room.0 in
    c.insert.ensures.succeeds (omega arith)

pub returns : goal.returns
returns c =
    let updated = on_ok (Updates same_child c.swap_remove.new.self c.insert.new.self c.key_of-2.result (Some c.args.node.now.rec))
    c.insert.result c.unwrap.result c.unwrap.ensures c.insert.ensures.updates in
    IsIndexOf-renamed c.args.index.now c.swap_remove.new.self c.insert.new.self c.args.nodes.now c.args.old.now c.args.node.now
    c.key_of.result c.key_of-2.result c.swap_remove.result c.unwrap.result c.requires c.key_of.ensures c.key_of-2.ensures
    c.swap_remove.ensures.updates.0 updated.0 c.swap_remove.ensures.value c.swap_remove.ensures.len
    (if_ok (λ old. old ≡ get same_child c.swap_remove.new.self c.key_of-2.result) c.insert.result c.unwrap.result c.unwrap.ensures c.insert.ensures.old)
    (if_ok (λ old. index_map_len c.insert.new.self ≡ index_map_len c.swap_remove.new.self + cond (is_some old) 0 1) c.insert.result c.unwrap.result c.unwrap.ensures c.insert.ensures.len)
