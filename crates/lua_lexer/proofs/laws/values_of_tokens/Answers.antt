use Rattle.std.proofs.Common.{refl}
use Rattle.lua_lexer.proofs.ValueLaws.{quoted-value, long-value, numeral-value, numeral-small}
use Rattle.lua_lexer.proofs.laws.values_of_tokens.Goals as goal

pub returns : goal.returns
returns c = record { quoted = λ s place v h. quoted-value s place v h; long = λ s level n h. long-value s level n h; numeral = λ s hex h. numeral-value s hex h; small = λ s h. numeral-small _ s refl h }
