use Rattle.lua_ops_tests.proofs.tests.operators.Given as goal

abbrev pub ghosts-on_heaps : goal.ghosts-on_heaps
ghosts-on_heaps g a = record { name = a.blank.name; parts = a.blank.parts }
