use Rattle.zp_changes.proofs.OthersStay.{others-stay}
use Rattle.zp_changes.proofs.laws.others_stay.Goals as goal

pub returns : goal.returns
returns c = λ t d txg now i r w there other. others-stay t d txg now i r w there other
