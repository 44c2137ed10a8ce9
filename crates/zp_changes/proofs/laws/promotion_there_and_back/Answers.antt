use Rattle.zp_changes.proofs.PromoteBack.{back-passes, back-gives}
use Rattle.zp_changes.proofs.laws.promotion_there_and_back.Goals as goal

pub returns-clause-passes : goal.returns-clause-passes
returns-clause-passes c = λ t name old w passes owner younger. back-passes t name old w passes owner younger

pub returns-clause-back : goal.returns-clause-back
returns-clause-back c = λ t name old w passes owner younger. back-gives t name old w passes owner younger
