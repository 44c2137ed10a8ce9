-- A task in place of which others are done.
use Rattle.std.specs.Prelude.{◌≡◌, ℕ, ◌+◌, ◌<◌, List, ◌++◌}
use Rattle.std.proofs.Common.{ap, ◌∙◌, sym, subst, arith}
use Rattle.lua_ast.specs.Tree.{Tree}
use Rattle.lua_scope.specs.declared.occurrence.Occurrence.{Occurrence}
use Rattle.lua_scope.specs.declared.task.Task.{Task}
use Rattle.lua_scope.specs.Tasks.{walk, walks}
use Rattle.lua_scope.specs.Walking.{weight, weights, TasksBelow}
use Rattle.lua_scope.proofs.NodeWalks.{walks_append, weights_append, below_append}

pub stepped : (part : ℕ → Tree) (h : List Occurrence) (task wanted : Task) (tasks old new : List Task) → task ≡ wanted → new ≡ tasks ++ old
    → walks part h tasks ≡ walk part h wanted → walks part h new ≡ walks part (walk part h task) old
stepped part h task wanted tasks old new is e same =
    ap (walks part h) e ∙ (walks_append part h tasks old ∙ ap (λ (g : List Occurrence). walks part g old) (same ∙ ap (walk part h) (sym is)))

pub lighter : (part : ℕ → Tree) (task wanted : Task) (tasks old new : List Task) → task ≡ wanted → new ≡ tasks ++ old
    → weights part tasks < weight part wanted → weights part new < weight part task + weights part old
lighter part task wanted tasks old new is e less = omega (arith, ap (weights part) e, weights_append part tasks old, ap (weight part) is)

pub still_below : (n : ℕ) (tasks old new : List Task) → new ≡ tasks ++ old → TasksBelow n tasks → TasksBelow n old → TasksBelow n new
still_below n tasks old new e a b = subst (λ (ts : List Task). TasksBelow n ts) (sym e) (below_append n tasks old a b)
