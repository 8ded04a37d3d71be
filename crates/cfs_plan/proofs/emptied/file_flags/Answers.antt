use Rattle.std.proofs.Common.{◌<◌, ◌∙◌, sym, subst, get_or, arith}
use Rattle.std.proofs.lemmas.List.Elements.{All-contains, Contains-get_or}
use Rattle.cfs_dir.specs.declared.node.Node.{Node}
use Rattle.cfs_plan.proofs.Filters.{flag-length, flag-more}
use Rattle.cfs_plan.proofs.emptied.file_flags.Goals as goal

pub loop-node-preserved : goal.loop-node-preserved
loop-node-preserved c =
    let nodes = c.args.nodes.now in
    let k = c.loop-node.node-index in
    let node = c.node-item.result in
    let low : node.rec < c.args.count =
    subst (λ (n : Node). n.rec < c.args.count) (sym c.node-item.is)
    (All-contains (λ (n : Node). n.rec < c.args.count) nodes (get_or nodes k node) c.requires
    (Contains-get_or nodes k node c.loop-node-test.true)) in
    record {
      len = flag-length node c.loop-node.flags.items c.set_flag.new.flags.items c.set_flag.ensures
          ∙ c.loop-node.invariant.len;
      flags = flag-more nodes k node c.loop-node.flags.items c.set_flag.new.flags.items
          c.loop-node-test.true c.node-item.is (omega (arith, low, c.loop-node.invariant.len))
          c.set_flag.ensures c.loop-node.invariant.flags;
    }
