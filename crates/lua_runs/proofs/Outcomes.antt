-- What a machine has come to that has ended.
use Rattle.std.proofs.Common.{◌≡◌, ℕ, suc, List, [], ◌∷◌, true, false, sym, subst, arith}
use Rattle.lua_ast.specs.declared.node.LinedNode.{LinedNode}
use Rattle.lua_meaning.specs.Store.{Store, none, Result}
use Rattle.lua_meaning.specs.Code.{Code}
use Rattle.lua_meaning.specs.Jobs.{HostOf}
use Rattle.lua_meaning.specs.Laws.{IsEnded}
use Rattle.lua_coroutines.specs.Threads.{ThreadsOf}
use Rattle.lua_coroutines.specs.declared.frame.Frame.{Frame}
use Rattle.lua_steps.specs.declared.mode.Mode.{Mode}
use Rattle.lua_steps.specs.declared.mode.Mode.TheVariants as mode
use Rattle.lua_steps.specs.Frames.{means}
use Rattle.lua_steps.specs.Works.{limit, Leads, Ends}
use Rattle.lua_steps.specs.Configuration.{Next}
use Rattle.lua_steps.proofs.Passing.{raises_all, stops_all}
use Rattle.lua_runs.specs.Endings.{ends_above, has_ended, IsOutcome}
use Rattle.lua_runs.specs.Standing.{machine_store, EndsBody, IsRunning}

never : false ≡ true → ⊥
never e = cc

module _ {H : Type 0} (host : HostOf H) (code : Code) (nodes : List LinedNode) where
  comes_to : (a : Mode) (fs : List Frame) (m l u n : ℕ) (s : Store H) (o : Result H) → EndsBody o → ends_above a fs ≡ true → Leads host code nodes m l u fs (means host code nodes m n a s none) o → IsOutcome a s o
  comes_to (mode.Raise v) fs m l u n s o b e h = sym (raises_all host code nodes 0 (λ m r. o) m l u fs v s none o h)
  comes_to (mode.Stopped st) fs m l u n s o b e h = sym (stops_all host code nodes 0 (λ m r. o) m l u fs st s none o h)
  comes_to (mode.Give vs) [] m l u n s o b e h = sym h
  comes_to (mode.Leave vs) [] m l u n s o b e h = subst (λ p. EndsBody p) (sym h) b
  comes_to mode.Break [] m l u n s o b e h = subst (λ p. EndsBody p) (sym h) b
  comes_to (mode.Jump i) [] m l u n s o b e h = subst (λ p. EndsBody p) (sym h) b
  comes_to (mode.Give vs) (f ∷ fs) m l u n s o b e h = absurd (never e)
  comes_to (mode.Leave vs) (f ∷ fs) m l u n s o b e h = absurd (never e)
  comes_to mode.Break (f ∷ fs) m l u n s o b e h = absurd (never e)
  comes_to (mode.Jump i) (f ∷ fs) m l u n s o b e h = absurd (never e)
  comes_to a fs m l u n s o b e h = absurd (never e)

  is_ended : (a : Mode) (s : Store H) (o : Result H) → IsOutcome a s o → IsEnded o
  is_ended (mode.Raise v) s o h = subst (λ p. IsEnded p) (sym h) tt
  is_ended (mode.Stopped st) s o h = subst (λ p. IsEnded p) (sym h) tt
  is_ended (mode.Give vs) s o h = subst (λ p. IsEnded p) (sym h) tt
  is_ended a s o h = absurd h

  module _ (t : ThreadsOf) (w : H) (o : Result H) (y : Next) (running : IsRunning host code nodes t w o y) (ended : has_ended y ≡ true) where
    pub outcome : IsOutcome y.0 (machine_store y.1 t w) o
    outcome =
        let m : ℕ = suc y.1.heap.used.most_instructions in
        let s : Store H = machine_store y.1 t w in
        let e : Ends host code nodes m s none y.1.frames y.0 (running.stands.whole m none) = running.stands.works.ends m none (omega arith) in
        comes_to y.0 y.1.frames m (limit s) e.since e.fuel s o running.stands.ends ended
        (subst (λ p. Leads host code nodes m (limit s) e.since y.1.frames (means host code nodes m e.fuel y.0 s none) p) running.stands.outcome e.leads)

    pub fuel_suffices : IsEnded o
    fuel_suffices = is_ended y.0 (machine_store y.1 t w) o outcome
