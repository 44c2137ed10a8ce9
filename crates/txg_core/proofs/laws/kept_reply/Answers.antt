use Rattle.txg_core.proofs.KeptReply.{synced-by}
use Rattle.txg_core.proofs.laws.kept_reply.Goals as goal

pub returns : goal.returns
returns g c = λ o h s d r l e. synced-by o h s d r l e
