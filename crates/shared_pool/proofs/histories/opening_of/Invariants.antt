use Rattle.shared_pool.proofs.histories.opening_of.Given as goal

abbrev pub ghost-from_pair : goal.ghost-from_pair
ghost-from_pair g a = record { object = a.one.now; counts = a.other.now.now }
