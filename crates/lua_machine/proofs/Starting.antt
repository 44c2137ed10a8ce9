-- A machine that begins a program runs towards what it means.
use Rattle.std.proofs.Common.{◌≡◌, ◌∙◌, ℕ, ◌+◌, List, length, All, sym, subst, ap}
use Rattle.zc_budget.specs.Used.{IsWithin}
use Rattle.lua_ast.specs.Decode.{ChunkNodes}
use Rattle.lua_meaning.specs.declared.value.Value.{Value}
use Rattle.lua_meaning.specs.Jobs.{HostOf}
use Rattle.lua_values.specs.Ids.{ids_of, IsOf}
use Rattle.lua_coroutines.specs.Threads.{ThreadsOf}
use Rattle.lua_coroutines.specs.Hosts.{state_with}
use Rattle.lua_code.specs.CodeOf.{code_of}
use Rattle.lua_steps.specs.declared.mode.Mode.{Mode}
use Rattle.lua_steps.specs.Configuration.{Configuration}
use Rattle.lua_runs.specs.Standing.{beginning, IsRunning}
use Rattle.lua_runs.proofs.Going.{begins}
use Rattle.lua_machine.specs.Machines.{meant}

-- x is what the machine had, and z1 the same; it then begins at the root of the chunk.
pub begun : {W : Type 0} (host : HostOf W) (c : ChunkNodes) (args : List Value) (t : ThreadsOf) (w : W) (x z1 z : Configuration) (m : Mode) (root : ℕ) →
    z1 ≡ x → root ≡ c.root → IsWithin x.heap.used → All (IsOf (ids_of x.heap)) args → length t.threads ≡ x.heap.threads + 1 → (m, z) ≡ beginning z1.heap root args →
    IsRunning host (code_of c) c.nodes t w (meant host c args (state_with x.heap t w)) (m, z)
begun host c args t w x z1 z m root same is within own threads e =
    subst (λ (y : Mode × Configuration). IsRunning host (code_of c) c.nodes t w (meant host c args (state_with x.heap t w)) y)
    (sym (e ∙ ap (λ (q : Configuration). beginning q.heap root args) same ∙ ap (λ (i : ℕ). beginning x.heap i args) is))
    (begins host (code_of c) c.nodes c.root args x.heap t w within own threads)
