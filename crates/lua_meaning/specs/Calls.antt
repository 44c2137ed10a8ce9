-- Calls of closures, built-ins and iterator functions, `__call`, and what a built-in's answer does (Lua 5.2 manual, 2.4, 3.4.9 and 3.4.10).
-- This project's own: the call of a built-in, of an iterator function and of `__call` is one instruction, at most 200 calls are in progress, no yield crosses a built-in that waits for a function, and the result of `__tostring` is a text.
use Rattle.std.specs.Prelude.{ℕ, ◌+◌, nat_le, Bool, true, false, List, [], ◌∷◌, length, drop, codes, if◌then◌else◌, Option, Some, None, slice_get}
use Rattle.lua_ast.specs.Tree.{Tree, Function}
use Rattle.lua_meaning.specs.declared.value.Value.{Value}
use Rattle.lua_meaning.specs.declared.value.Value.TheVariants as value
use Rattle.lua_meaning.specs.declared.variable.Slot.{Slot}
use Rattle.lua_meaning.specs.declared.status.CoStatus.{CoStatus}
use Rattle.lua_meaning.specs.declared.status.CoStatus.TheVariants as status
use Rattle.lua_meaning.specs.declared.status.After.{After}
use Rattle.lua_meaning.specs.declared.status.After.TheVariants.{FirstThree, OneText}
use Rattle.lua_meaning.specs.Values.{first}
use Rattle.lua_meaning.specs.Heap.{ClosureOf, metamethod}
use Rattle.lua_meaning.specs.Store.{State, Store, CallOf, Result, Go, Halt, Breaks, Jumps, Returns, Raises, Stops, state_of, with_state, heap_of, below_of, call_of, with_call}
use Rattle.lua_meaning.specs.Code.{Code}
use Rattle.lua_meaning.specs.Runs.{Run, go, halt, tick, line_at, fails, fails_on, if_few}
use Rattle.lua_meaning.specs.Locals.{captured_locals, declare_all}
use Rattle.lua_meaning.specs.Jobs.{Apply, Answer, Values, Raise, Stopped, CallThen, Resume, Yield, HostOf, Again, Resumes}
use Rattle.lua_meaning.specs.Nodes.{eval}
use Rattle.lua_meaning.specs.Threads.{status_of, given, refuses, yield}

-- the most calls in progress; the main chunk is one
abbrev pub most_calls : ℕ
most_calls = 200

-- the arguments behind the parameters
abbrev pub varargs_of : Bool → ℕ → List Value → List Value
varargs_of true n args = drop n args
varargs_of false n args = []

abbrev pub body_call : List (ℕ × Slot) → List Value → List ℕ → Bool → CallOf
body_call locals varargs lines across = record { locals = locals; varargs = varargs; lines = lines; across = across }

module _ {H : Type 0} where
  -- The call that was in progress goes on. A break or a jump out of a body, which no text has, ends it.
  abbrev pub body_ends : CallOf → Result H → Result H
  body_ends call (Go vs s r) = Go [] (with_call call s) r
  body_ends call (Halt (Returns vs) s r) = Go vs (with_call call s) r
  body_ends call (Halt Breaks s r) = Go [] (with_call call s) r
  body_ends call (Halt (Jumps x) s r) = Go [] (with_call call s) r
  body_ends call (Halt e s r) = Halt e s r

  -- a call begins where fewer than 200 are in progress, those of the coroutines below included
  abbrev pub if_room : List ℕ → List ℕ → Run H → Run H
  if_room lines inner k s = if nat_le most_calls (below_of s + length inner) then fails lines (codes "stack overflow") s else k s

  -- what a built-in makes of the results of the function that it called
  abbrev pub made_of : After → List Value → List ℕ → Run H
  made_of FirstThree vs lines = go (first vs ∷ first (drop 1 vs) ∷ first (drop 2 vs) ∷ [])
  made_of OneText (value.Text x ∷ vs) lines = go (value.Text x ∷ [])
  made_of OneText vs lines = fails lines (codes "bad argument 1 to tostring")

  abbrev pub then_made : After → List ℕ → CallOf → Result H → Result H
  then_made a lines call (Go vs s r) = made_of a vs lines (with_call call s) r
  then_made a lines call (Halt e s r) = Halt e s r

  abbrev pub crossing : Store H → Store H
  crossing s = with_call (record (call_of s) { across = true }) s

module _ {H : Type 0} (host : HostOf H) (code : Code) (again : Again H) (resumes : Resumes H) where
  -- The body of a closure, with its parameters. The captured ones are made before its block begins.
  abbrev pub enter_function : Tree → ClosureOf → List Value → List ℕ → Run H
  enter_function (Function n l params vararg block) c args inner s r =
      body_ends (call_of s) (declare_all code (code.first_variable n) (length params) args (eval code again block)
      (with_call (body_call (captured_locals (code.captured n) c.cells) (varargs_of vararg (length params) args) inner (call_of s).across) s) r)
  enter_function t c args inner s r = Go [] s r

  abbrev pub enter : Option ClosureOf → List Value → List ℕ → Run H
  enter None args inner = go []
  enter (Some c) args inner = enter_function (code.function c.function) c args inner

  abbrev pub resume_by : CoStatus → ℕ → List Value → (wrapped : Bool) → List ℕ → List ℕ → Run H
  resume_by status.Suspended i args wrapped lines inner = λ s r. given wrapped lines (resumes i args lines inner s) r
  resume_by status.Dead i args wrapped lines inner = refuses wrapped lines (codes "cannot resume dead coroutine")
  resume_by _ i args wrapped lines inner = refuses wrapped lines (codes "cannot resume non-suspended coroutine")

  -- what an answer does
  abbrev pub answered : Answer → List ℕ → List ℕ → Run H
  answered (Values vs) lines inner = if_few lines vs (go vs)
  answered (Raise v) lines inner = halt (Raises v)
  answered (Stopped stop) lines inner = halt (Stops stop)
  answered (CallThen f args a) lines inner = λ s r.
      then_made a lines (call_of s) (again (Apply f args (line_at lines ∷ inner) (line_at lines ∷ inner)) (crossing s) r)
  answered (Resume i args wrapped) lines inner = λ s. resume_by (status_of i s) i args wrapped lines inner s
  answered (Yield vs) lines inner = yield vs lines

  abbrev pub host_answers : Answer × State H → List ℕ → List ℕ → Run H
  host_answers a lines inner s = answered a.0 lines inner (with_state a.1 s)

  -- a value that is no function is called by its `__call`
  abbrev pub by_call : Value → Value → List Value → List ℕ → List ℕ → Run H
  by_call value.Nil v args lines inner = fails_on lines (codes "call") v
  by_call f v args lines inner = tick (if_few lines (v ∷ args) (again (Apply f (v ∷ args) lines inner)))

  -- A call. A built-in and an iterator function are one instruction.
  abbrev pub apply : Value → List Value → List ℕ → List ℕ → Run H
  apply (value.Closure i) args lines inner = if_room lines inner (λ s. enter (slice_get (heap_of s).closures i) args inner s)
  apply (value.Builtin b) args lines inner = tick (if_room lines inner (λ s. host_answers (host.call b args lines (state_of s)) lines inner s))
  apply (value.Iter i) args lines inner = tick (if_room lines inner (λ s. host_answers (host.step i args lines (state_of s)) lines inner s))
  apply v args lines inner = λ s. by_call (metamethod (heap_of s) v (codes "__call")) v args lines inner s
