-- The pairs of a table (Lua 5.2 manual, 2.1, 3.4.6 and `next` of 6.1).
-- This project's own: pairs stand in the order in which their keys were first put, which is the order of a walk; a key set to nil keeps its place; the border is the least.
use Rattle.std.specs.Prelude.{ℕ, zero, suc, ◌+◌, pos, Bool, is_some, List, [], ◌∷◌, length, take_while, if◌then◌else◌, Option, Some, None, slice_get}
use Rattle.std.specs.Map.{lookup}
use Rattle.lua_meaning.specs.declared.value.Value.{Value}
use Rattle.lua_meaning.specs.declared.value.Value.TheVariants as value
use Rattle.lua_meaning.specs.Values.{same, is_nil, or_nil}

abbrev pub Pairs : Type 0
Pairs = List (Value × Value)

-- the value at a key, or nil
abbrev pub value_at : Pairs → Value → Value
value_at ps k = or_nil (lookup (same k) ps)

-- the key has a place
abbrev pub was_put : Pairs → Value → Bool
was_put ps k = is_some (lookup (same k) ps)

-- the value at the key's place, or at a new one behind the others
abbrev pub with_pair : Pairs → Value → Value → Pairs
with_pair [] k v = (k, v) ∷ []
with_pair (p ∷ ps) k v = if same k p.0 then ((p.0, v) ∷ ps) else (p ∷ with_pair ps k v)

abbrev pub border_behind : (most n : ℕ) → Pairs → ℕ
border_behind zero n ps = n
border_behind (suc most) n ps = if is_nil (value_at ps (value.Int (pos (n + 1)))) then n else border_behind most (n + 1) ps

-- the least n at whose successor there is nil
abbrev pub border : Pairs → ℕ
border ps = border_behind (length ps) 0 ps

-- the pairs behind a key, all of them behind nil; none where the key was never put
abbrev pub behind_key : Pairs → Value → Option Pairs
behind_key [] k = None
behind_key (p ∷ ps) k = if same k p.0 then Some ps else behind_key ps k

abbrev pub pairs_behind : Pairs → Value → Option Pairs
pairs_behind ps value.Nil = Some ps
pairs_behind ps k = behind_key ps k

-- how many places a walk skips: those whose value is nil
abbrev pub skipped : Pairs → ℕ
skipped ps = length (take_while (λ p. is_nil p.1) ps)

-- the pair that it comes to
abbrev pub next_pair : Pairs → Option (Value × Value)
next_pair ps = slice_get ps (skipped ps)
