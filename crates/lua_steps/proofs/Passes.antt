-- What returns, breaks and jumps make of the frames that they come to is what these mean.
use Rattle.std.proofs.Common.{◌≡◌, ℕ, ◌+◌, List, [], drop, Option, Some, None, refl, ap, arith}
use Rattle.lua_ast.specs.Decode.{list_of}
use Rattle.lua_meaning.specs.declared.value.Value.{Value}
use Rattle.lua_meaning.specs.Store.{Halt, Breaks, Jumps, Returns}
use Rattle.lua_meaning.specs.Runs.{go}
use Rattle.lua_meaning.specs.Nodes.{closed, landed, statements}
use Rattle.lua_meaning.specs.Programs.{jobs}
use Rattle.lua_coroutines.specs.declared.frame.Frame.{Frame}
use Rattle.lua_coroutines.specs.declared.frame.Frame.TheVariants as frame
use Rattle.lua_coroutines.specs.declared.frame.BodyFrame.TheVariants as body
use Rattle.lua_coroutines.specs.declared.frame.WhileFrame.TheVariants as while_loop
use Rattle.lua_coroutines.specs.declared.frame.RepeatFrame.TheVariants as repeat_loop
use Rattle.lua_coroutines.specs.declared.frame.CountFrame.TheVariants as count_loop
use Rattle.lua_coroutines.specs.declared.frame.EachFrame.TheVariants as each_loop
use Rattle.lua_steps.specs.declared.mode.Mode.TheVariants as mode
use Rattle.lua_steps.specs.Parts.{part, list_at, name_there}
use Rattle.lua_steps.specs.Frames.{jobs_at, goes_on}
use Rattle.lua_steps.specs.Configuration.{Configuration, cut, with_call, taken_up}
use Rattle.lua_steps.specs.Passed.{returned, broken, label_in, landed_in, landed_open, jumped}
use Rattle.lua_steps.specs.Keeping.{AreTrees}
use Rattle.lua_steps.proofs.Lists.{statements_are}
use Rattle.lua_steps.proofs.Passing.{returns_pass, breaks_pass, jumps_pass}
use Rattle.lua_steps.proofs.Labels.{no_label_in, label_found}
use Rattle.lua_steps.proofs.Arriving.{Setting, as_store, Runs, Arrives, settles, pushes, lowers}

module _ {H : Type 0} (c : Setting H) where
  pub arrives_left : (f : Frame) (vs : List Value) (y : Configuration) → Runs c 1 0 y.heap.used y.frames (λ m j r. goes_on c.host c.code c.nodes m j f (Halt (Returns vs) (as_store c y) r)) → Arrives c (taken_up (returned vs f) y)
  arrives_left (frame.Body (body.Caller call)) vs y h = settles c h (mode.Give vs) (with_call call y) (omega arith) (omega arith) (λ m j r. refl)
  arrives_left f vs y h = settles c h (mode.Leave vs) y (omega arith) (omega arith) (λ m j r. returns_pass c.host c.code c.nodes c.ended c.whole m j f vs (as_store c y) r refl)

  pub arrives_broken : (f : Frame) (y : Configuration) → Runs c 1 0 y.heap.used y.frames (λ m j r. goes_on c.host c.code c.nodes m j f (Halt Breaks (as_store c y) r)) → Arrives c (taken_up (broken f) y)
  arrives_broken (frame.Body (body.Caller call)) y h = settles c h (mode.Give []) (with_call call y) (omega arith) (omega arith) (λ m j r. refl)
  arrives_broken (frame.While (while_loop.Test node outer)) y h = settles c h (mode.Give []) (cut outer y) (omega arith) (omega arith) (λ m j r. refl)
  arrives_broken (frame.While (while_loop.Turn node outer)) y h = settles c h (mode.Give []) (cut outer y) (omega arith) (omega arith) (λ m j r. refl)
  arrives_broken (frame.Repeat (repeat_loop.Turn node outer before)) y h = settles c h (mode.Give []) (cut outer y) (omega arith) (omega arith) (λ m j r. refl)
  arrives_broken (frame.Repeat (repeat_loop.Test node outer before)) y h = settles c h (mode.Give []) (cut outer y) (omega arith) (omega arith) (λ m j r. refl)
  arrives_broken (frame.Count (count_loop.Turn node at to step outer before)) y h = settles c h (mode.Give []) (cut outer y) (omega arith) (omega arith) (λ m j r. refl)
  arrives_broken (frame.Each (each_loop.Next node f state outer)) y h = settles c h (mode.Give []) (cut outer y) (omega arith) (omega arith) (λ m j r. refl)
  arrives_broken (frame.Each (each_loop.Turn node f state control outer before)) y h = settles c h (mode.Give []) (cut outer y) (omega arith) (omega arith) (λ m j r. refl)
  arrives_broken f y h = settles c h mode.Break y (omega arith) (omega arith) (λ m j r. breaks_pass c.host c.code c.nodes c.ended c.whole m j f (as_store c y) r refl)

  -- the outcome of a jump that comes to a frame
  abbrev pub IsJumped : ℕ → Frame → Configuration → Type 0
  IsJumped i f y = Runs c 2 1 y.heap.used y.frames (λ m j r. goes_on c.host c.code c.nodes m j f (Halt (Jumps (name_there c.nodes i)) (as_store c y) r))

  lands_in : AreTrees c.nodes → (i block next outer : ℕ) (y : Configuration) (found : Option (ℕ × ℕ)) → label_in c.nodes block i ≡ found → IsJumped i (frame.Body (body.Statements block next outer)) y → Arrives c (taken_up (landed_in c.nodes block outer i found) y)
  unfolding jobs
  lands_in trees i block next outer y None e h = settles c h (mode.Jump i) y (omega arith) (omega arith) (λ m j r. rw (no_label_in c.nodes trees (name_there c.nodes i) (list_at c.nodes block) e) refl)
  lands_in trees i block next outer y (Some found) e h =
      let is = label_found c.nodes trees (name_there c.nodes i) (list_at c.nodes block) found e in
      pushes c (lowers c 1 h (λ m j r. closed outer (landed c.code (jobs_at c.host c.code c.nodes m j) (list_of (part c.nodes) (list_at c.nodes block)) outer
      (statements c.code (jobs_at c.host c.code c.nodes m j) (list_of (part c.nodes) (drop found.0 (list_at c.nodes block))) (go []) (as_store c (cut (outer + found.1) y)) r)))
      (λ m j r. rw is.0 (rw is.1 refl)))
      (frame.Body (body.Statements block found.0 outer)) (mode.Give []) (cut (outer + found.1) y) refl (omega arith) (omega arith)
      (λ m j r. ap (λ o. closed outer (landed c.code (jobs_at c.host c.code c.nodes m j) (list_of (part c.nodes) (list_at c.nodes block)) outer o)) (statements_are c.code (jobs_at c.host c.code c.nodes m j) (part c.nodes) (drop found.0 (list_at c.nodes block)) (go []) (as_store c (cut (outer + found.1) y)) r))

  lands_open : AreTrees c.nodes → (i block next outer : ℕ) (y : Configuration) (found : Option (ℕ × ℕ)) → label_in c.nodes block i ≡ found → IsJumped i (frame.Body (body.Open block next outer)) y → Arrives c (taken_up (landed_open c.nodes block outer i found) y)
  unfolding jobs
  lands_open trees i block next outer y None e h = settles c h (mode.Jump i) y (omega arith) (omega arith) (λ m j r. rw (no_label_in c.nodes trees (name_there c.nodes i) (list_at c.nodes block) e) refl)
  lands_open trees i block next outer y (Some found) e h =
      let is = label_found c.nodes trees (name_there c.nodes i) (list_at c.nodes block) found e in
      pushes c (lowers c 1 h (λ m j r. landed c.code (jobs_at c.host c.code c.nodes m j) (list_of (part c.nodes) (list_at c.nodes block)) outer
      (statements c.code (jobs_at c.host c.code c.nodes m j) (list_of (part c.nodes) (drop found.0 (list_at c.nodes block))) (go []) (as_store c (cut (outer + found.1) y)) r))
      (λ m j r. rw is.0 (rw is.1 refl)))
      (frame.Body (body.Open block found.0 outer)) (mode.Give []) (cut (outer + found.1) y) refl (omega arith) (omega arith)
      (λ m j r. ap (λ o. landed c.code (jobs_at c.host c.code c.nodes m j) (list_of (part c.nodes) (list_at c.nodes block)) outer o) (statements_are c.code (jobs_at c.host c.code c.nodes m j) (part c.nodes) (drop found.0 (list_at c.nodes block)) (go []) (as_store c (cut (outer + found.1) y)) r))

  pub arrives_jumped : AreTrees c.nodes → (f : Frame) (i : ℕ) (y : Configuration) → IsJumped i f y → Arrives c (taken_up (jumped c.nodes i f) y)
  arrives_jumped trees (frame.Body (body.Statements block next outer)) i y h = lands_in trees i block next outer y (label_in c.nodes block i) refl h
  arrives_jumped trees (frame.Body (body.Open block next outer)) i y h = lands_open trees i block next outer y (label_in c.nodes block i) refl h
  arrives_jumped trees (frame.Body (body.Caller call)) i y h = settles c h (mode.Give []) (with_call call y) (omega arith) (omega arith) (λ m j r. refl)
  arrives_jumped trees f i y h = settles c h (mode.Jump i) y (omega arith) (omega arith) (λ m j r. jumps_pass c.host c.code c.nodes c.ended c.whole m j f i (as_store c y) r refl)
