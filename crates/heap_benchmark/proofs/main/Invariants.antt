use Rattle.heap_benchmark.proofs.main.Given as goal

abbrev pub ghosts-done : goal.ghosts-done
ghosts-done a = record { name = a.blank.name; parts = a.blank.parts }
