-- How a machine begins, and that a step leaves it running.
use Rattle.std.proofs.Common.{◌≡◌, ◌∙◌, ℕ, suc, ◌+◌, ◌<◌, List, [], length, All, false, refl, sym, ap, arith}
use Rattle.std.proofs.lemmas.List.Elements.{All-nil, All-cons}
use Rattle.zc_budget.specs.Used.{IsWithin}
use Rattle.lua_ast.specs.declared.node.LinedNode.{LinedNode}
use Rattle.lua_meaning.specs.declared.value.Value.{Value}
use Rattle.lua_meaning.specs.Heap.{HeapOf}
use Rattle.lua_meaning.specs.Store.{CallOf, Store, none, Resumptions, Result, Go, Halt, Breaks, Jumps, Returns, Raises, Stops, Yields, OutOfFuel}
use Rattle.lua_meaning.specs.Code.{Code}
use Rattle.lua_meaning.specs.Jobs.{HostOf}
use Rattle.lua_meaning.specs.Calls.{body_call, body_ends}
use Rattle.lua_meaning.specs.Nodes.{eval}
use Rattle.lua_meaning.specs.Programs.{jobs, resume, program}
use Rattle.lua_values.specs.Ids.{ids_of, AreOwn, IsOf}
use Rattle.lua_coroutines.specs.Threads.{ThreadsOf}
use Rattle.lua_coroutines.specs.declared.frame.Frame.TheVariants as frame
use Rattle.lua_coroutines.specs.declared.frame.BodyFrame.TheVariants as body
use Rattle.lua_steps.specs.Parts.{part}
use Rattle.lua_steps.specs.Works.{limit}
use Rattle.lua_steps.specs.Configuration.{Next}
use Rattle.lua_steps.specs.Own.{IsOwnFrame, IsOwnLocal, IsOwnCall}
use Rattle.lua_steps.specs.Keeping.{AreTrees, AreFunctions, is_hosted, Keeps}
use Rattle.lua_steps.specs.Machine.{step}
use Rattle.lua_steps.proofs.EachStep.{step_works}
use Rattle.lua_steps.proofs.OwnStep.{step_own}
use Rattle.lua_runs.specs.Weights.{work_left}
use Rattle.lua_runs.specs.Endings.{has_ended}
use Rattle.lua_runs.specs.Standing.{beginning, machine_store, EndsBody, IsRunning}
use Rattle.lua_runs.proofs.StepWeights.{step_falls, step_threads}
use Rattle.lua_runs.proofs.Working.{work_falls}

module _ {H : Type 0} where
  pub body_is_ended : (o : Result H) (call : CallOf) → EndsBody (body_ends call o)
  body_is_ended (Go vs s r) call = tt
  body_is_ended (Halt (Returns vs) s r) call = tt
  body_is_ended (Halt Breaks s r) call = tt
  body_is_ended (Halt (Jumps x) s r) call = tt
  body_is_ended (Halt (Raises v) s r) call = tt
  body_is_ended (Halt (Stops st) s r) call = tt
  body_is_ended (Halt (Yields vs) s r) call = tt
  body_is_ended (Halt OutOfFuel s r) call = tt

module _ {H : Type 0} (host : HostOf H) (code : Code) (nodes : List LinedNode) where
  -- the main chunk, with this fuel
  abbrev main : (root : ℕ) → List Value → Store H → (fuel m : ℕ) → Resumptions H → Result H
  main root args s fuel m r = body_ends (body_call [] args [] false) (eval code (jobs host code (resume host code m) fuel) (part nodes root) s r)

  main_fuel : (h : HeapOf) (root : ℕ) (args : List Value) (t : ThreadsOf) (w : H) → limit (machine_store (beginning h root args).1 t w) + 1 < h.used.instructions + suc (suc h.used.most_instructions)
  main_fuel h root args t w = (let is : h.used.most_instructions + 1 < h.used.instructions + suc (suc h.used.most_instructions) = omega arith in is)

  pub begins : (root : ℕ) (args : List Value) (h : HeapOf) (t : ThreadsOf) (w : H) → IsWithin h.used → All (IsOf (ids_of h)) args → length t.threads ≡ h.threads + 1 →
      IsRunning host code nodes t w (program host code (part nodes root) args (machine_store (beginning h root args).1 t w)) (beginning h root args)
  begins root args h t w within own threads =
      let s : Store H = machine_store (beginning h root args).1 t w in
      let fuel : ℕ = suc h.used.most_instructions in
      let call : IsOwnCall (ids_of h) (body_call [] args [] false) = record { locals = All-nil (IsOwnLocal (ids_of h)); varargs = own } in
      record {
        stands = record {
          whole = main root args s fuel;
          works = record {
            ends = λ m r le. record {
              fuel = fuel;
              enough = omega arith;
              since = h.used.instructions;
              before = omega arith;
              leads = (suc fuel, main_fuel h root args t w, refl);
            };
          };
          outcome = refl;
          ends = body_is_ended (eval code (jobs host code (resume host code fuel) fuel) (part nodes root) s none) (body_call [] args [] false);
        };
        within = within;
        mode = tt;
        held = record { call = call; frames = All-cons (IsOwnFrame (ids_of h)) (frame.Body (body.Caller (body_call [] args [] false))) [] call (All-nil (IsOwnFrame (ids_of h))) };
        threads = threads;
      }

  module _ (t : ThreadsOf) (w : H) (o : Result H) (y : Next) (trees : AreTrees nodes) (functions : AreFunctions code nodes) (alone : is_hosted y.0 ≡ false) (running : IsRunning host code nodes t w o y) where
    keeps : Keeps host code nodes 0 running.stands.whole (machine_store y.1 t w) y.1 (step nodes code y.0 y.1)
    keeps = step_works host code nodes 0 running.stands.whole (machine_store y.1 t w) y.1 y.0 trees functions running.within alone running.stands.works

    pub goes_on : AreOwn y.1.heap → IsRunning host code nodes t w o (step nodes code y.0 y.1)
    goes_on own =
        let k = keeps in
        let held = step_own code nodes y.1 y.0 own running.mode running.held in
        record {
          stands = record { whole = running.stands.whole; works = k.works; outcome = ap (λ n. running.stands.whole (suc n) none) k.grows.same_most_instructions ∙ running.stands.outcome; ends = running.stands.ends };
          within = k.grows.within;
          mode = held.1;
          held = held.2;
          threads = running.threads ∙ ap (λ n. n + 1) (sym (step_threads nodes code y.0 y.1 running.within alone));
        }

    pub lowers : has_ended y ≡ false → work_left nodes (step nodes code y.0 y.1) < work_left nodes y
    lowers on = (let k = keeps in work_falls nodes y (step nodes code y.0 y.1) k.grows.same_most_instructions k.grows.within.instructions (step_falls nodes code y.0 y.1 running.within alone on))
