-- Coroutines (Lua 5.2 manual, 2.6 and 6.2): yields, and what a resumption begins with and leaves.
-- A coroutine that is resumed again is run again from its first resumption on, with the stores and values of the later ones at hand: a yield answers the next of them, and where none is left the coroutine yields. This project's own: a stop isn't caught by a resumption.
use Rattle.std.specs.Prelude.{ℕ, ◌==◌, Bool, true, false, List, [], ◌∷◌, codes, Option, Some, None, slice_get, slice_set}
use Rattle.lua_meaning.specs.declared.value.Value.{Value}
use Rattle.lua_meaning.specs.declared.value.Value.TheVariants as value
use Rattle.lua_meaning.specs.declared.status.CoStatus.{CoStatus}
use Rattle.lua_meaning.specs.declared.status.CoStatus.TheVariants as status
use Rattle.lua_meaning.specs.Store.{ThreadOf, State, CallOf, Store, store, Resumptions, none, resumed, Result, Go, Halt, Raises, Yields, state_of, below_of, call_of, with_call, and_then}
use Rattle.lua_meaning.specs.Runs.{Run, go, fails, if_few, new_text}

abbrev pub status_in : Option ThreadOf → CoStatus
status_in None = status.Normal
status_in (Some t) = t.status

abbrev pub function_in : Option ThreadOf → Value
function_in None = value.Nil
function_in (Some t) = t.function

abbrev pub with_status : List ThreadOf → ℕ → CoStatus → List ThreadOf
with_status ts i st = slice_set ts i (record { function = function_in (slice_get ts i); status = st })

-- before the own function of a coroutine begins: the line of what resumes it
abbrev pub fresh_call : (line : ℕ) → CallOf
fresh_call line = record { locals = []; varargs = []; lines = line ∷ []; across = false }

module _ {H : Type 0} where
  abbrev pub status_of : ℕ → Store H → CoStatus
  status_of i s = status_in (slice_get (state_of s).threads i)

  abbrev pub function_of : ℕ → Store H → Value
  function_of i s = function_in (slice_get (state_of s).threads i)

  abbrev pub running_of : Store H → ℕ
  running_of s = (state_of s).running

  abbrev pub switched : State H → ℕ → (left : CoStatus) → State H
  switched w i left = record w { threads = with_status (with_status w.threads w.running left) i status.Running; running = i }

  -- the store with a coroutine running; `below` calls are in progress below it
  abbrev pub into : ℕ → (line below : ℕ) → Store H → Store H
  into i line below (store w b call rs) = store (switched w i status.Normal) below (fresh_call line) rs

  -- the store of its end, with the coroutine that resumed it running again
  abbrev pub back : (before started : Store H) → ℕ → List Value → (left : CoStatus) → Store H → Store H
  back before started i args left (store w b call rs) = store (switched w (running_of before) left) (below_of before) (call_of before) (and_then rs i started args)

  -- how the coroutine is left
  abbrev pub ended : (before started : Store H) → ℕ → List Value → Result H → Result H
  ended before started i args (Go vs s r) = Go vs (back before started i args status.Dead s) none
  ended before started i args (Halt (Yields vs) s r) = Go vs (back before started i args status.Suspended s) none
  ended before started i args (Halt e s r) = Halt e (back before started i args status.Dead s) none

  -- What a resumption answers: its values, or false and the error value. A function of `coroutine.wrap` raises the error again.
  abbrev pub given : (wrapped : Bool) → List ℕ → Result H → Resumptions H → Result H
  given false lines (Go vs s _) r = if_few lines (value.Bool true ∷ vs) (go (value.Bool true ∷ vs)) s r
  given true lines (Go vs s _) r = if_few lines vs (go vs) s r
  given false lines (Halt (Raises v) s _) r = Go (value.Bool false ∷ v ∷ []) s r
  given wrapped lines (Halt e s _) r = Halt e s r

  -- a coroutine that is not suspended isn't resumed
  abbrev pub refuses : (wrapped : Bool) → List ℕ → List ℕ → Run H
  refuses true lines text = fails lines text
  refuses false lines text = new_text text (λ t. go (value.Bool false ∷ t ∷ []))

  -- a rerun goes on with the next resumption of the coroutine
  abbrev pub goes_on_with : List Value → (call : CallOf) → List ℕ → Run H
  goes_on_with vs call lines s none = Halt (Yields vs) s none
  goes_on_with vs call lines s (resumed i t args rest) = if_few lines args (go args) (with_call call t) rest

  abbrev pub yield_from : (is_main across : Bool) → List Value → List ℕ → Run H
  yield_from true across vs lines = fails lines (codes "attempt to yield from outside a coroutine")
  yield_from false true vs lines = fails lines (codes "attempt to yield across a built-in call")
  yield_from false false vs lines = λ s. goes_on_with vs (call_of s) lines s

  abbrev pub yield : List Value → List ℕ → Run H
  yield vs lines s = yield_from (running_of s == 0) (call_of s).across vs lines s
