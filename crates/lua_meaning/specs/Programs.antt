-- Jobs, resumptions and whole programs. `n` is the fuel for jobs that stand in one another, and `m` that for reruns. Both are one more than the limit of instructions: each job stands after an instruction, and each resumption too.
use Rattle.std.specs.Prelude.{ℕ, zero, suc, ◌+◌, false, List, [], ◌∷◌, length}
use Rattle.lua_ast.specs.Tree.{Tree}
use Rattle.lua_meaning.specs.declared.value.Value.{Value}
use Rattle.lua_meaning.specs.Values.{first}
use Rattle.lua_meaning.specs.Store.{Store, Resumptions, none, resumed, Result, Halt, OutOfFuel, CallOf, below_of, call_of, with_call, resumptions_of, and_then, of_thread}
use Rattle.lua_meaning.specs.Code.{Code}
use Rattle.lua_meaning.specs.Runs.{Run, go, halt, after, line_at, at_line, used_of}
use Rattle.lua_meaning.specs.Jobs.{Job, Apply, Look, Put, Turn, Round, Count, Each, From, HostOf, Again, Resumes}
use Rattle.lua_meaning.specs.Indexing.{look, put_at}
use Rattle.lua_meaning.specs.Nodes.{eval, statements, landed}
use Rattle.lua_meaning.specs.Loops.{turn, round, count_turn, each_with}
use Rattle.lua_meaning.specs.Calls.{apply, body_ends, body_call}
use Rattle.lua_meaning.specs.Threads.{into, ended, function_of}

module _ {H : Type 0} (host : HostOf H) (code : Code) where
  -- one job, where those in it are given
  abbrev pub work : Again H → Resumes H → Job → Run H
  work again resumes (Apply f args lines inner) = apply host code again resumes f args lines inner
  work again resumes (Look o key lines) = look again o key lines
  work again resumes (Put o key x lines) = put_at again o key x lines
  work again resumes (Turn test block) = turn code again test block
  work again resumes (Round block test) = round code again block test
  work again resumes (Count v block at limit step) = count_turn code again v block at limit step
  work again resumes (Each v n block f state control l) = λ s r.
      after (apply host code again resumes f (state ∷ control ∷ []) (at_line l s) (at_line l s) s r) (λ xs. each_with code again (first xs) v n block f state l xs)
  work again resumes (From stats part outer) = λ s r. landed code again stats outer (statements code again part (go []) s r)

  -- jobs with this much fuel
  unfoldable pub jobs : Resumes H → ℕ → Again H
  jobs resumes zero job = halt OutOfFuel
  jobs resumes (suc n) job = work (jobs resumes n) resumes job

  abbrev pub limit_of : Store H → ℕ
  limit_of s = (used_of s).most_instructions

  -- the own function of a coroutine, from its first resumption on
  abbrev pub rerun : Resumes H → ℕ → Resumptions H → Result H → Result H
  rerun lower i none otherwise = otherwise
  rerun lower i (resumed j s args rest) otherwise = jobs lower (suc (limit_of s)) (Apply (function_of i s) args (call_of s).lines []) s rest

  -- a resumption, with this much fuel
  unfoldable pub resume : ℕ → Resumes H
  resume zero i args lines inner s = Halt OutOfFuel s none
  resume (suc m) i args lines inner s =
      let started = into i (line_at lines) (below_of s + suc (length inner)) s in
      ended s started i args (rerun (resume m) i (and_then (of_thread i (resumptions_of s)) i started args) (Halt OutOfFuel s none))

  -- the main chunk, whose `...` are the arguments
  abbrev pub main_call : List Value → CallOf
  main_call args = body_call [] args [] false

  -- a whole program, with these arguments
  abbrev pub program : Tree → List Value → Store H → Result H
  program root args s =
      let fuel = suc (limit_of s) in
      body_ends (main_call args) (eval code (jobs (resume fuel) fuel) root (with_call (main_call args) s) none)
