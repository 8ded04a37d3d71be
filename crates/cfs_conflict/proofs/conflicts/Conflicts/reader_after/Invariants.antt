use Rattle.cfs_conflict.proofs.conflicts.Conflicts.reader_after.Given as goal

abbrev pub ghosts-reader_of : goal.ghosts-reader_of
ghosts-reader_of a = record { name = a.blank.name; parts = a.blank.parts }
