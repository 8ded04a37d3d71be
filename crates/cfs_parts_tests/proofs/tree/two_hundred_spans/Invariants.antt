use Rattle.cfs_parts_tests.proofs.tree.two_hundred_spans.Given as goal

abbrev pub ghosts-kept_in_tens : goal.ghosts-kept_in_tens
ghosts-kept_in_tens g a = record { name = a.blank.name; parts = a.blank.parts }
