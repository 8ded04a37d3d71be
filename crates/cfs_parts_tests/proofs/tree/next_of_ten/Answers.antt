use Rattle.cfs_tree.proofs.Tens.{few_steps}
use Rattle.cfs_parts_tests.proofs.tree.next_of_ten.Goals as goal

pub returns : goal.returns
returns g c = record {
  few = few_steps c.args.tree.now.spans c.args.asked.now 10 c.args.steps.now c.next_covered.new.steps c.requires.spans
      c.requires.ten c.next_covered.ensures.cost;
}
