use Rattle.known.proofs.Known.from_four.Given as goal

abbrev pub ghost-of : goal.ghost-of
ghost-of g a = g.value
