use Rattle.known.proofs.tests.it_takes_no_bytes.Given as goal

abbrev pub ghost-of : goal.ghost-of
ghost-of g a = 7
