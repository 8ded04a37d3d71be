use Rattle.cfs_survey.proofs.journal.+count_reached.Given as goal

abbrev pub decreases-count_reached : goal.decreases-count_reached
decreases-count_reached l = l.most
