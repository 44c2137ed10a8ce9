use Rattle.std.proofs.Common.{arith}
use Rattle.lua_lexer.proofs.OneReading.{in-order, all-within, all-spelled, all-on-line}
use Rattle.lua_lexer.proofs.laws.tokens_of_text.Goals as goal

pub returns : goal.returns
returns c = record { order = λ text ts l. in-order text (omega arith) l; within = λ text ts l. all-within text (omega arith) l; spelled = λ text ts l. all-spelled text l; lines = λ text ts l. all-on-line text l }
