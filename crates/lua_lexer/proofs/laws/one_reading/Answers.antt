use Rattle.std.proofs.Common.{length, arith}
use Rattle.lua_lexer.proofs.OneReading.{same_tokens, same_refusal, no_both, reads, place-within}
use Rattle.lua_lexer.proofs.laws.one_reading.Goals as goal

pub returns : goal.returns
returns c = record { tokens = λ text ts us l m. same_tokens text l m; refusals = λ text d e f g. same_refusal text d e f g; apart = λ text ts e l f. no_both text e l f; place = λ text e f. place-within text e (omega arith) f; all = λ text. reads (length text) text 0 (omega arith) }
