-- A turn of each kind of loop (Lua 5.2 manual, 3.3.4 and 3.3.5).
-- This project's own: a turn is one instruction, and a numeric `for` ends too where the next number would pass 64 bits.
use Rattle.std.specs.Prelude.{ℕ, ℤ, ◌+ℤ◌, Bool, true, false, List, []}
use Rattle.lua_ast.specs.Tree.{Tree}
use Rattle.lua_meaning.specs.declared.value.Value.{Value}
use Rattle.lua_meaning.specs.declared.value.Value.TheVariants as value
use Rattle.lua_meaning.specs.Values.{first}
use Rattle.lua_meaning.specs.Numbers.{fits}
use Rattle.lua_meaning.specs.Code.{Code}
use Rattle.lua_meaning.specs.Runs.{Run, go, after, tick}
use Rattle.lua_meaning.specs.Locals.{local_count, cut, declare, declare_all}
use Rattle.lua_meaning.specs.Jobs.{Again, Turn, Round, Each}
use Rattle.lua_meaning.specs.Nodes.{eval, open_body, by_truth, count}

module _ {H : Type 0} (code : Code) (again : Again H) where
  -- a turn of `while`: the test, then the block
  abbrev pub turn : (test block : Tree) → Run H
  turn test block s r = after (eval code again test s r) (λ vs. by_truth (first vs)
      (λ s r. after (eval code again block s r) (λ d. tick (again (Turn test block))))
      (go []))

  abbrev pub round_ends : ℕ → (block test : Tree) → Value → Run H
  round_ends outer block test v s = by_truth v (go []) (tick (again (Round block test))) (cut outer s)

  -- a turn of `repeat`: the block, then the test, which sees the block's locals
  abbrev pub round : (block test : Tree) → Run H
  round block test s r = after (open_body code again block s r) (λ d s' r. after (eval code again test s' r) (λ vs. round_ends (local_count s) block test (first vs)))

  abbrev pub count_next : Bool → ℕ → Tree → (next limit step : ℤ) → Run H
  count_next true v block next limit step = count code again v block next limit step
  count_next false v block next limit step = go []

  -- a turn of a numeric `for`, with a local of its own; it is the last where the next number would pass 64 bits
  abbrev pub count_turn : ℕ → Tree → (at limit step : ℤ) → Run H
  count_turn v block at limit step s r =
      after (declare code v (value.Int at) (eval code again block) s r) (λ d s'. count_next (fits (at +ℤ step)) v block (at +ℤ step) limit step (cut (local_count s) s'))

  -- A turn of a generic `for`, after the call of its function. The first result is the next control value; nil ends the loop.
  abbrev pub each_with : (control : Value) → (v n : ℕ) → Tree → (function state : Value) → (line : ℕ) → List Value → Run H
  each_with value.Nil v n block f state l xs = go []
  each_with control v n block f state l xs = λ s r.
      after (declare_all code v n xs (eval code again block) s r) (λ d s'. tick (again (Each v n block f state control l)) (cut (local_count s) s'))
