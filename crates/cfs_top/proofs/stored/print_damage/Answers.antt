use Rattle.cfs_top.proofs.stored.print_damage.Goals as goal

pub returns : goal.returns
returns c = c.in_ok-text.ensures.ok
