use Rattle.std.proofs.Common.{◌++◌, ap, ◌∙◌}
use Rattle.txg_core.specs.History.{Hold, Check, Enqueue, Read, Take}
use Rattle.txg_core.specs.Serial.{given}
use Rattle.txg_core.specs.Laws.{kept_of}
use Rattle.txg_core.proofs.Replies.{app-nil, one-more-own, given-alone}
use Rattle.txg_core.proofs.laws.replies_added.Goals as goal

pub returns-clause-others : goal.returns-clause-others
returns-clause-others g c = λ o h later s lawful l none. given-alone o s h later lawful l none

pub returns-clause-hold : goal.returns-clause-hold
returns-clause-hold g c = λ o h s d lawful l. one-more-own o h Hold s d lawful l ∙ app-nil (given o h s)

pub returns-clause-check : goal.returns-clause-check
returns-clause-check g c = λ o h s d lawful l. one-more-own o h Check s d lawful l

pub returns-clause-enqueue : goal.returns-clause-enqueue
returns-clause-enqueue g c = λ o h s d lawful l. one-more-own o h Enqueue s d lawful l ∙ app-nil (given o h s)

pub returns-clause-read : goal.returns-clause-read
returns-clause-read g c = λ o h s d lawful l. one-more-own o h Read s d lawful l

pub returns-clause-take : goal.returns-clause-take
returns-clause-take g c = λ o h s d q r lawful l e. one-more-own o h Take s d lawful l ∙ ap (λ p. given o h s ++ kept_of p) e
