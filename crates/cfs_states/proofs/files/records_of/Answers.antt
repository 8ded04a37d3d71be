use Rattle.std.proofs.Common.{◌∙◌, sym, arith}
use Rattle.cfs_plan.proofs.Filters.{with-file}
use Rattle.cfs_states.proofs.files.records_of.Goals as goal

pub loop-k-preserved-in_ok-insert : goal.loop-k-preserved-in_ok-insert
loop-k-preserved-in_ok-insert c =
    with-file c.args.nodes.now c.loop-k.records c.insert.new.self c.loop-k.k
    c.index-nodes-k.result (omega (arith, c.loop-k-test.true)) (omega (arith, c.loop-k.auto.k))
    c.index-nodes-k.is (sym c.is_directory.ensures ∙ c.if-not-is_directory.true)
    c.in_ok-insert.ensures.updates.0 c.loop-k.invariant
