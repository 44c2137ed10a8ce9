-- Compact JSON texts (RFC 8259) of values whose numbers are whole.
use Rattle.std.specs.Prelude.{◌≡◌, ℕ, false, List, Some}
use Rattle.serde_json.specs.Data.{Data}
use Rattle.serde_json.specs.Read.{read}
use Rattle.serde_json.specs.Written.{has_float, compact_text}

-- the text tells a value, as it is written with no space
pub record IsJsonText (text : List ℕ) : Type 0 where
  pub value : Data
  pub reads : read text ≡ Some value
  pub whole : has_float value ≡ false
  pub compact : text ≡ compact_text value
