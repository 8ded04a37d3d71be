use Rattle.cfs_tree.proofs.Tens.{few_steps}
use Rattle.cfs_parts_tests.proofs.tree.first_of_one.Goals as goal

pub returns : goal.returns
returns g c = record {
  few = few_steps c.args.tree.now.spans c.args.asked.now 1 c.args.steps.now c.first_overlap_between.new.steps c.requires.spans
      c.requires.one c.first_overlap_between.ensures.cost;
}
