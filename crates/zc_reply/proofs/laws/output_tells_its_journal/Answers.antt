use Rattle.zc_reply.proofs.Telling.{output-told}
use Rattle.zc_reply.proofs.laws.output_tells_its_journal.Goals as goal

pub returns : goal.returns
returns c = λ j k r q s n t u small short. output-told j k r q s n t u small short
