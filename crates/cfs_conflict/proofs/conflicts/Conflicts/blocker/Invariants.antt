use Rattle.cfs_conflict.proofs.conflicts.Conflicts.blocker.Given as goal

abbrev pub ghosts-blocker_of : goal.ghosts-blocker_of
ghosts-blocker_of a = record { name = a.blank.name; parts = a.blank.parts }
