use Rattle.lua_scope.proofs.OneAnswer.{one-tree, loads-or-fails, one-error}
use Rattle.lua_scope.proofs.EveryText.{every-text}
use Rattle.lua_scope.proofs.laws.one_answer.Goals as goal

pub returns-clause-trees : goal.returns-clause-trees
returns-clause-trees c = λ text s t a b. one-tree c.one_reading.ensures.tokens c.one_reading-2.ensures.only text s t a.is_text b.is_text

pub returns-clause-apart : goal.returns-clause-apart
returns-clause-apart c = λ text e a fails. loads-or-fails c.one_reading.ensures.tokens c.one_reading.ensures.apart c.one_reading-2.ensures.only text a.0 e a.1 fails

pub returns-clause-refusals : goal.returns-clause-refusals
returns-clause-refusals c = λ text d e f g. one-error c.one_reading.ensures.tokens c.one_reading.ensures.refusals c.one_reading.ensures.apart c.one_reading-2.ensures.only text d e f g

pub returns-clause-all : goal.returns-clause-all
returns-clause-all c = λ text. every-text c.one_reading.ensures.all c.one_reading-2.ensures.some text
