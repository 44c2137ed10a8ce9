use Rattle.lua_values_tests.proofs.part_tests.parts.Given as goal

abbrev pub ghosts-on_heaps : goal.ghosts-on_heaps
ghosts-on_heaps g a = record { name = a.blank.name; parts = a.blank.parts }
