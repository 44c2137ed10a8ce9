-- Codes that tell the same of every number.
use Rattle.std.specs.Prelude.{◌≡◌, ℕ}
use Rattle.lua_meaning.specs.Code.{Code}

pub record SameCode (a b : Code) : Type 0 where
  pub function : (i : ℕ) → a.function i ≡ b.function i
  pub variable : (i : ℕ) → a.variable i ≡ b.variable i
  pub first_variable : (i : ℕ) → a.first_variable i ≡ b.first_variable i
  pub is_captured : (v : ℕ) → a.is_captured v ≡ b.is_captured v
  pub captured : (i : ℕ) → a.captured i ≡ b.captured i
