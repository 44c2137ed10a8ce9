use Rattle.lua_ops_tests.proofs.metamethod_tests.metamethods.Given as goal

abbrev pub ghosts-on_heaps : goal.ghosts-on_heaps
ghosts-on_heaps g a = record { name = a.blank.name; parts = a.blank.parts }
