use Rattle.shared_pool.specs.Recordings.{with_first_sync}
use Rattle.shared_pool.proofs.histories.after_sync.Given as goal

abbrev pub ghost-from_pair : goal.ghost-from_pair
ghost-from_pair g a = with_first_sync a.one.now.syncing_queue a.other.now.value
