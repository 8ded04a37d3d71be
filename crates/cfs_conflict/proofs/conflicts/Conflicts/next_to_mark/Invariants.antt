use Rattle.cfs_conflict.proofs.conflicts.Conflicts.next_to_mark.Given as goal

abbrev pub ghosts-to_mark_of : goal.ghosts-to_mark_of
ghosts-to_mark_of a = record { name = a.blank.name; parts = a.blank.parts }
