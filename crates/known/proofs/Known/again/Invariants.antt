use Rattle.known.proofs.Known.again.Given as goal

abbrev pub ghost-from_pair : goal.ghost-from_pair
ghost-from_pair g a = a.one.now.value
