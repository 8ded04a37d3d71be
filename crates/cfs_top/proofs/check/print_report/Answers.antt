use Rattle.cfs_top.proofs.check.print_report.Goals as goal

pub returns : goal.returns
returns c = c.in_ok-text.ensures.ok
