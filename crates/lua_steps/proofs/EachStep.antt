-- Each step keeps what the program means, but for calls that the host serves.
use Rattle.std.proofs.Common.{◌≡◌, ℕ, List, [], ◌∷◌, false, refl}
use Rattle.zc_budget.specs.Used.{IsWithin}
use Rattle.lua_ast.specs.declared.node.LinedNode.{LinedNode}
use Rattle.lua_meaning.specs.declared.value.Value.{Value}
use Rattle.lua_meaning.specs.Store.{Store, Breaks, Jumps, Returns, Resumptions, Result, Go, Halt}
use Rattle.lua_meaning.specs.Code.{Code}
use Rattle.lua_meaning.specs.Jobs.{HostOf}
use Rattle.lua_coroutines.specs.declared.frame.Frame.{Frame}
use Rattle.lua_steps.specs.declared.mode.Mode.{Mode}
use Rattle.lua_steps.specs.declared.mode.Mode.TheVariants as mode
use Rattle.lua_steps.specs.Parts.{name_there}
use Rattle.lua_steps.specs.Works.{Works}
use Rattle.lua_steps.specs.Configuration.{Configuration, with_frames}
use Rattle.lua_steps.specs.Machine.{given_top, left_top, broken_top, jumped_top, step}
use Rattle.lua_steps.specs.Keeping.{AreTrees, AreFunctions, is_hosted, store_with, Keeps}
use Rattle.lua_steps.proofs.Arriving.{Setting, as_store, Arrives, departs, pops, kept, grows_none}
use Rattle.lua_steps.proofs.Givens.{arrives_given}
use Rattle.lua_steps.proofs.Passes.{arrives_left, arrives_broken, arrives_jumped}
use Rattle.lua_steps.proofs.OperandModes.{arrives_binary, arrives_unary, arrives_look, arrives_put}
use Rattle.lua_steps.proofs.LoopModes.{arrives_turn, arrives_round, arrives_open, arrives_start, arrives_count, arrives_next, arrives_each}
use Rattle.lua_steps.proofs.StoreModes.{arrives_declare, arrives_targets, arrives_stores, arrives_fields, arrives_items, arrives_entry}
use Rattle.lua_steps.proofs.CallModes.{arrives_return, arrives_apply, arrives_results, arrives_made, arrives_call}
use Rattle.lua_steps.proofs.Beginning.{arrives_begin}

module _ {H : Type 0} (c : Setting H) where
  gives : (fs : List Frame) (vs : List Value) (x : Configuration) → Arrives c (mode.Give vs, with_frames fs x) → Arrives c (given_top c.nodes c.code fs vs (with_frames fs x))
  gives [] vs x h = h
  gives (f ∷ fs) vs x h = arrives_given c f vs (with_frames fs x) (pops c 0 (λ m r. Go vs (as_store c x) r) h)

  leaves : (fs : List Frame) (vs : List Value) (x : Configuration) → Arrives c (mode.Leave vs, with_frames fs x) → Arrives c (left_top c.nodes c.code fs vs (with_frames fs x))
  leaves [] vs x h = h
  leaves (f ∷ fs) vs x h = arrives_left c f vs (with_frames fs x) (pops c 0 (λ m r. Halt (Returns vs) (as_store c x) r) h)

  breaks : (fs : List Frame) (x : Configuration) → Arrives c (mode.Break, with_frames fs x) → Arrives c (broken_top c.nodes c.code fs (with_frames fs x))
  breaks [] x h = h
  breaks (f ∷ fs) x h = arrives_broken c f (with_frames fs x) (pops c 0 (λ m r. Halt Breaks (as_store c x) r) h)

  jumps : (trees : AreTrees c.nodes) (i : ℕ) (fs : List Frame) (x : Configuration) → Arrives c (mode.Jump i, with_frames fs x) → Arrives c (jumped_top c.nodes c.code i fs (with_frames fs x))
  jumps trees i [] x h = h
  jumps trees i (f ∷ fs) x h = arrives_jumped c trees f i (with_frames fs x) (pops c 1 (λ m r. Halt (Jumps (name_there c.nodes i)) (as_store c x) r) h)

  arrives : (trees : AreTrees c.nodes) (functions : AreFunctions c.code c.nodes) (a : Mode) (x : Configuration) → is_hosted a ≡ false → Arrives c (a, x) → Arrives c (step c.nodes c.code a x)
  arrives trees functions (mode.Begin i) x e h = arrives_begin c trees i x h
  arrives trees functions (mode.Give vs) x e h = gives x.frames vs x h
  arrives trees functions (mode.Leave vs) x e h = leaves x.frames vs x h
  arrives trees functions mode.Break x e h = breaks x.frames x h
  arrives trees functions (mode.Jump i) x e h = jumps trees i x.frames x h
  arrives trees functions (mode.Raise v) x e h = h
  arrives trees functions (mode.Stopped st) x e h = h
  arrives trees functions (mode.Declare node vs) x e h = arrives_declare c node vs x h
  arrives trees functions (mode.Targets node next ts) x e h = arrives_targets c trees node next ts x h
  arrives trees functions (mode.Stores node ts xs) x e h = arrives_stores c node ts xs x h
  arrives trees functions (mode.Fields node next t count) x e h = arrives_fields c node next t count x h
  arrives trees functions (mode.Items node next t count vs) x e h = arrives_items c node next t count vs x h
  arrives trees functions (mode.Entry node next t count key v) x e h = arrives_entry c node next t count key v x h
  arrives trees functions (mode.Binary node a b) x e h = arrives_binary c node a b x h
  arrives trees functions (mode.Unary node a) x e h = arrives_unary c node a x h
  arrives trees functions (mode.Look node o key) x e h = arrives_look c node o key x h
  arrives trees functions (mode.Put node o key v) x e h = arrives_put c node o key v x h
  arrives trees functions (mode.Turn node outer) x e h = arrives_turn c node outer x h
  arrives trees functions (mode.Round node outer) x e h = arrives_round c node outer x h
  arrives trees functions (mode.Open i) x e h = arrives_open c trees i x h
  arrives trees functions (mode.Start node a b d) x e h = arrives_start c node a b d x h
  arrives trees functions (mode.Count node at limit by outer) x e h = arrives_count c node at limit by outer x h
  arrives trees functions (mode.Next node f state control outer) x e h = arrives_next c node f state control outer x h
  arrives trees functions (mode.Each node f state outer vs) x e h = arrives_each c node f state outer vs x h
  arrives trees functions (mode.Return node vs) x e h = arrives_return c node vs x h
  arrives trees functions (mode.Apply node f args) x e h = arrives_apply c node f args x h
  arrives trees functions (mode.Call f args lines own) x e h = arrives_call c trees functions f args lines own x e h
  arrives trees functions (mode.Results lines vs) x e h = arrives_results c lines vs x h
  arrives trees functions (mode.Made after lines vs) x e h = arrives_made c after lines vs x h

-- A step of the abstract machine keeps what the frames and the mode mean, for each host, and passes no limit.
pub step_works : {H : Type 0} (host : HostOf H) (code : Code) (nodes : List LinedNode) (ended : ℕ) (whole : ℕ → Resumptions H → Result H) (s : Store H) (x : Configuration) (a : Mode) →
    AreTrees nodes → AreFunctions code nodes → IsWithin x.heap.used → is_hosted a ≡ false → Works host code nodes ended (store_with x s) x.frames a whole → Keeps host code nodes ended whole s x (step nodes code a x)
step_works {H} host code nodes ended whole s x a trees functions within own works =
    let c : Setting H = record { host = host; code = code; nodes = nodes; beside = s; ended = ended; whole = whole; from = x.heap.used } in
    kept c x (step nodes code a x) refl (arrives c trees functions a x own (departs c x a (grows_none x.heap.used within) works))
