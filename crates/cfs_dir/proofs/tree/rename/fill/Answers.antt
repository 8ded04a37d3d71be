use Rattle.std.proofs.Common.{◌≡◌, ◌+◌, cond, sym, ◌∙◌, ap}
use Rattle.std.specs.Prelude.{Some, is_some, option_copied}
use Rattle.std.specs.HashMap.{get, Updates}
use Rattle.indexmap.specs.IndexMap.{index_map_len}
use Rattle.cfs_dir.specs.Table.{same_child}
use Rattle.cfs_dir.proofs.Filled.{IsFilled, filled-none, filled-room, filled-some}
use Rattle.cfs_dir.proofs.Numbers.{if_ok, on_ok}
use Rattle.cfs_dir.proofs.tree.rename.fill.Goals as goal

pub loop-rec-preserved-in_default : goal.loop-rec-preserved-in_default
loop-rec-preserved-in_default c =
    let filled : IsFilled c.args.nodes.now c.loop-rec.index c.loop-rec.rec = record {
      indexed = c.loop-rec.invariant.indexed;
      count = c.loop-rec.invariant.count;
      room = c.loop-rec.invariant.room;
    } in
    let next = filled-none c.args.nodes.now c.loop-rec.index c.loop-rec.rec (sym c.get.ensures ∙ ap option_copied c.in_default.is) filled in
    record { indexed = next.indexed; count = next.count; room = next.room }

pub unwrap-requires : goal.unwrap-requires
unwrap-requires c =
    let filled : IsFilled c.args.nodes.now c.loop-rec.index c.loop-rec.rec = record {
      indexed = c.loop-rec.invariant.indexed;
      count = c.loop-rec.invariant.count;
      room = c.loop-rec.invariant.room;
    } in
    c.insert.ensures.succeeds (filled-room c.args.nodes.now c.loop-rec.index c.loop-rec.rec c.in-Some.node.now
    (sym c.get.ensures ∙ ap option_copied c.in-Some.is) filled)

pub loop-rec-preserved : goal.loop-rec-preserved
loop-rec-preserved c =
    let filled : IsFilled c.args.nodes.now c.loop-rec.index c.loop-rec.rec = record {
      indexed = c.loop-rec.invariant.indexed;
      count = c.loop-rec.invariant.count;
      room = c.loop-rec.invariant.room;
    } in
    let updated = on_ok (Updates same_child c.loop-rec.index c.insert.new.self c.key_of.result (Some c.loop-rec.rec))
    c.insert.result c.unwrap.result c.unwrap.ensures c.insert.ensures.updates in
    let next = filled-some c.args.nodes.now c.loop-rec.index c.insert.new.self c.loop-rec.rec c.in-Some.node.now c.key_of.result c.unwrap.result
    c.requires.records c.requires.name_once (sym c.get.ensures ∙ ap option_copied c.in-Some.is) filled c.key_of.ensures updated.0
    (if_ok (λ old. old ≡ get same_child c.loop-rec.index c.key_of.result) c.insert.result c.unwrap.result c.unwrap.ensures c.insert.ensures.old)
    (if_ok (λ old. index_map_len c.insert.new.self ≡ index_map_len c.loop-rec.index + cond (is_some old) 0 1) c.insert.result c.unwrap.result c.unwrap.ensures c.insert.ensures.len)
    c.insert.ensures.spare in
    record { indexed = next.indexed; count = next.count; room = next.room }
