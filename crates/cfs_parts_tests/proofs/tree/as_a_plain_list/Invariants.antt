use Rattle.cfs_parts_tests.proofs.tree.as_a_plain_list.Given as goal

abbrev pub ghosts-drawn_calls : goal.ghosts-drawn_calls
ghosts-drawn_calls g a = record { name = a.blank.name; parts = a.blank.parts }
