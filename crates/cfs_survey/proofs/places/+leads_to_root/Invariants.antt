use Rattle.cfs_survey.proofs.places.+leads_to_root.Given as goal

abbrev pub decreases-leads_to_root : goal.decreases-leads_to_root
decreases-leads_to_root l = l.steps
