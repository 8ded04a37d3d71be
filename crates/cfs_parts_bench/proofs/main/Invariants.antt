use Rattle.cfs_parts_bench.proofs.main.Given as goal

abbrev pub ghosts-run : goal.ghosts-run
ghosts-run g = record { name = g.blank.name; parts = g.blank.parts }
