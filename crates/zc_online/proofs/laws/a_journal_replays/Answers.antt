use Rattle.zc_online.proofs.RunAt.{replays}
use Rattle.zc_online.proofs.laws.a_journal_replays.Goals as goal

pub returns : goal.returns
returns c = replays
