-- A machine goes on, by a step of its own.
use Rattle.std.proofs.Common.{◌≡◌, ◌<◌, List, false, Result, IfOk, sym, subst}
use Rattle.std.proofs.lemmas.Result.{IfOk-weaker}
use Rattle.lua_ast.specs.declared.node.LinedNode.{LinedNode}
use Rattle.lua_meaning.specs.Store.{Result as ResultOf}
use Rattle.lua_meaning.specs.Code.{Code}
use Rattle.lua_meaning.specs.Jobs.{HostOf}
use Rattle.lua_values.specs.Ids.{AreOwn}
use Rattle.lua_coroutines.specs.Threads.{ThreadsOf}
use Rattle.lua_steps.specs.declared.mode.Mode.{Mode}
use Rattle.lua_steps.specs.Configuration.{Configuration}
use Rattle.lua_steps.specs.Machine.{step}
use Rattle.lua_steps.specs.Keeping.{AreTrees, AreFunctions, is_hosted}
use Rattle.lua_runs.specs.Weights.{work_left}
use Rattle.lua_runs.specs.Endings.{has_ended}
use Rattle.lua_runs.specs.Standing.{IsRunning}
use Rattle.lua_runs.proofs.Going.{goes_on, lowers}

module _ {H : Type 0} (host : HostOf H) (code : Code) (nodes : List LinedNode) (t : ThreadsOf) (w : H) (o : ResultOf H) (b : Mode) (x : Configuration) (trees : AreTrees nodes) (functions : AreFunctions code nodes) (alone : is_hosted b ≡ false) (running : IsRunning host code nodes t w o (b, x)) where
  pub step_goes : {E : Type 0} (r : Result Mode E) (z : Configuration) → AreOwn x.heap → IfOk r (λ m. (m, z) ≡ step nodes code b x) → IfOk r (λ m. IsRunning host code nodes t w o (m, z))
  step_goes r z own told =
      IfOk-weaker r (λ m. (m, z) ≡ step nodes code b x) (λ m. IsRunning host code nodes t w o (m, z))
      (λ m e. subst (λ (y : Mode × Configuration). IsRunning host code nodes t w o y) (sym e) (goes_on host code nodes t w o (b, x) trees functions alone running own)) told

  pub step_falls : {E : Type 0} (r : Result Mode E) (z : Configuration) → has_ended (b, x) ≡ false → IfOk r (λ m. (m, z) ≡ step nodes code b x) → IfOk r (λ m. work_left nodes (m, z) < work_left nodes (b, x))
  step_falls r z on told =
      IfOk-weaker r (λ m. (m, z) ≡ step nodes code b x) (λ m. work_left nodes (m, z) < work_left nodes (b, x))
      (λ m e. subst (λ (y : Mode × Configuration). work_left nodes y < work_left nodes (b, x)) (sym e) (lowers host code nodes t w o (b, x) trees functions alone running on)) told
