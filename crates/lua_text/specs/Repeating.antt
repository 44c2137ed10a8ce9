-- A text so many times, with another between each two (Lua 5.2 manual, 6.4: string.rep).
use Rattle.std.specs.Prelude.{ℕ, zero, suc, List, [], ◌++◌}

unfoldable pub repeated : ℕ → (s separator : List ℕ) → List ℕ
repeated zero s separator = []
repeated (suc zero) s separator = s
repeated (suc (suc n)) s separator = repeated (suc n) s separator ++ (separator ++ s)
