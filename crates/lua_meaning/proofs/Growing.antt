-- From what every part keeps to the laws: what is used grows, the fuel suffices, and the host's state is changed by its calls alone.
use Rattle.std.proofs.Common.{ℕ, zero, suc, ◌+◌, ◌≤◌, List, Bool, refl, ◌∙◌, arith}
use Rattle.std.specs.Prelude.{IsTrue}
use Rattle.zc_budget.specs.Used.{Used, IsWithin}
use Rattle.lua_ast.specs.declared.node.BinOp.{BinOp}
use Rattle.lua_ast.specs.declared.node.UnOp.{UnOp}
use Rattle.lua_ast.specs.Tree.{Tree}
use Rattle.lua_meaning.specs.declared.builtin.Builtin.{Builtin as BuiltinOf}
use Rattle.lua_meaning.specs.declared.value.Value.{Value}
use Rattle.lua_meaning.specs.Store.{ThreadOf, State, Store, store, none, Result, Go, Halt, Breaks, Jumps, Returns, Raises, Stops, Yields, OutOfFuel, state_of, with_state, with_call}
use Rattle.lua_meaning.specs.Code.{Code}
use Rattle.lua_meaning.specs.Runs.{used_of}
use Rattle.lua_meaning.specs.Jobs.{Job, HostOf, Resumes as ResumesOf}
use Rattle.lua_meaning.specs.Operators.{binary, unary}
use Rattle.lua_meaning.specs.Indexing.{look, put_at}
use Rattle.lua_meaning.specs.Nodes.{eval}
use Rattle.lua_meaning.specs.Calls.{body_ends}
use Rattle.lua_meaning.specs.Programs.{jobs, resume, program, main_call, limit_of}
use Rattle.lua_meaning.specs.Laws.{Grows, IsAlone, IsFair, IsFairStep, KeepsState, store_of, IsEnded, IsStart, GrowsIn, EndsWith, StaysIn}
use Rattle.lua_meaning.proofs.Counts.{Plan, Counted, Ready, Fed, Runs, less}
use Rattle.lua_meaning.proofs.JobCounts.{body_ends_fed, with_call_ready, jobs_fed, nodes_fed, operators_fed, unary_operators_fed, looks_fed, puts_fed}

module _ {H : Type 0} where
  fed_ready : (l : Plan H) (u : ℕ) (o : Result H) → Fed l u o → Ready l u (store_of o)
  fed_ready l u (Go vs s r) h = h
  fed_ready l u (Halt (Jumps x) s r) h = less h
  fed_ready l u (Halt Breaks s r) h = h
  fed_ready l u (Halt (Returns vs) s r) h = h
  fed_ready l u (Halt (Raises v) s r) h = h
  fed_ready l u (Halt (Stops st) s r) h = h
  fed_ready l u (Halt (Yields vs) s r) h = h
  fed_ready l u (Halt OutOfFuel s r) h = h.1

  fed_ended : (l : Plan H) (u : ℕ) (o : Result H) → (l.Short → ⊥) → Fed l u o → IsEnded o
  fed_ended l u (Go vs s r) never h = tt
  fed_ended l u (Halt (Jumps x) s r) never h = tt
  fed_ended l u (Halt Breaks s r) never h = tt
  fed_ended l u (Halt (Returns vs) s r) never h = tt
  fed_ended l u (Halt (Raises v) s r) never h = tt
  fed_ended l u (Halt (Stops st) s r) never h = tt
  fed_ended l u (Halt (Yields vs) s r) never h = tt
  fed_ended l u (Halt OutOfFuel s r) never h = never h.0

  counted_within : (l : Plan H) (u : ℕ) (c : Used) → Counted l u c → IsWithin c
  counted_within l u c h = record { instructions = omega (arith, h.within, h.limit_is); bytes = omega (arith, h.bytes_within, h.most_bytes_is) }

  counted_grows : (l : Plan H) (c : Used) → Counted l l.from.instructions c → Grows l.from c
  counted_grows l c h = record { same_most_instructions = h.limit_is; same_most_bytes = h.most_bytes_is; instructions = h.since; bytes = h.bytes_since; within = counted_within l _ c h }

  grows_counted : (l : Plan H) (u : ℕ) (c d : Used) → Grows c d → Counted l u c → Counted l u d
  grows_counted l u c d g h = record {
    limit_is = g.same_most_instructions ∙ h.limit_is;
    since = omega (arith, h.since, g.instructions);
    within = omega (arith, g.within.instructions, g.same_most_instructions, h.limit_is);
    most_bytes_is = g.same_most_bytes ∙ h.most_bytes_is;
    bytes_since = omega (arith, h.bytes_since, g.bytes);
    bytes_within = omega (arith, g.within.bytes, g.same_most_bytes, h.most_bytes_is);
  }

  -- what a run from this store keeps: `Kept` of the host's state, and where `Short` holds fuel may run out
  abbrev plan : Used → (H → Type 0) → Type 0 → Plan H
  plan u kept short = record { from = u; Others = λ threads running h. IsAlone threads running × kept h; Short = short }

  begins : (s : Store H) (kept : H → Type 0) (short : Type 0) → IsStart s → kept (state_of s).host → Ready (plan (used_of s) kept short) (used_of s).instructions s
  begins s kept short start k = record {
    counts = record { limit_is = refl; since = omega arith; within = start.within.instructions; most_bytes_is = refl; bytes_since = omega arith; bytes_within = start.within.bytes };
    others = (start.alone, k);
  }

module _ {H : Type 0} (host : HostOf H) (code : Code) (resumes : ResumesOf H) (fair : IsFair host) (from : Used) (kept : H → Type 0)
    (calls_keep : (b : BuiltinOf) (args : List Value) (lines : List ℕ) (w : State H) → kept w.host → kept (host.call b args lines w).1.host)
    (steps_keep : (i : ℕ) (args : List Value) (lines : List ℕ) (w : State H) → kept w.host → kept (host.step i args lines w).1.host)
    (short : Type 0) where
  calls : (u : ℕ) (b : BuiltinOf) (args : List Value) (lines : List ℕ) (s : Store H) → Ready (plan from kept short) u s → Ready (plan from kept short) u (with_state (host.call b args lines (state_of s)).1 s)
  calls u b args lines (store w below c rs) h =
      let f : IsFairStep w (host.call b args lines w).1 = fair.call b args lines w in record {
        counts = grows_counted (plan from kept short) u w.heap.used _ (f.grows (counted_within (plan from kept short) u w.heap.used h.counts)) h.counts;
        others = (f.alone h.others.0, calls_keep b args lines w h.others.1);
      }

  steps : (u : ℕ) (i : ℕ) (args : List Value) (lines : List ℕ) (s : Store H) → Ready (plan from kept short) u s → Ready (plan from kept short) u (with_state (host.step i args lines (state_of s)).1 s)
  steps u i args lines (store w below c rs) h =
      let f : IsFairStep w (host.step i args lines w).1 = fair.step i args lines w in record {
        counts = grows_counted (plan from kept short) u w.heap.used _ (f.grows (counted_within (plan from kept short) u w.heap.used h.counts)) h.counts;
        others = (f.alone h.others.0, steps_keep i args lines w h.others.1);
      }

  alone : (threads : List ThreadOf) (running : ℕ) (h : H) → (plan from kept short).Others threads running h → IsAlone threads running
  alone threads running h o = o.0

  module _ (Enough : ℕ → ℕ → Type 0)
      (more : (n u : ℕ) → Enough n u → Enough n (u + 1))
      (lower : (n u : ℕ) → Enough (suc n) u → Enough n (u + 1))
      (shorten : (u : ℕ) → Enough 0 u → (s : Store H) → Ready (plan from kept short) (u + 1) s → short) where
    jobs_run : (n u : ℕ) → Enough n u → (job : Job) → Runs (plan from kept short) u (jobs host code resumes (suc n) job)
    jobs_run = jobs_fed host code resumes (plan from kept short) alone calls steps Enough more lower shorten

    nodes_run : (n u : ℕ) → Enough n u → (t : Tree) → Runs (plan from kept short) u (eval code (jobs host code resumes n) t)
    nodes_run = nodes_fed host code resumes (plan from kept short) alone calls steps Enough more lower shorten

    operators_run : (n u : ℕ) → Enough n u → (op : BinOp) (a b : Value) (lines : List ℕ) → Runs (plan from kept short) u (binary (jobs host code resumes n) op a b lines)
    operators_run = operators_fed host code resumes (plan from kept short) alone calls steps Enough more lower shorten

    unary_operators_run : (n u : ℕ) → Enough n u → (op : UnOp) (a : Value) (lines : List ℕ) → Runs (plan from kept short) u (unary (jobs host code resumes n) op a lines)
    unary_operators_run = unary_operators_fed host code resumes (plan from kept short) alone calls steps Enough more lower shorten

    looks_run : (n u : ℕ) → Enough n u → (o key : Value) (lines : List ℕ) → Runs (plan from kept short) u (look (jobs host code resumes n) o key lines)
    looks_run = looks_fed host code resumes (plan from kept short) alone calls steps Enough more lower shorten

    puts_run : (n u : ℕ) → Enough n u → (o key x : Value) (lines : List ℕ) → Runs (plan from kept short) u (put_at (jobs host code resumes n) o key x lines)
    puts_run = puts_fed host code resumes (plan from kept short) alone calls steps Enough more lower shorten

  -- where fuel may run out
  module _ (may : short) where
    jobs_go : (n u : ℕ) (job : Job) → Runs (plan from kept short) u (jobs host code resumes n job)
    unfolding jobs
    jobs_go zero u job = λ s r h. (may, h)
    jobs_go (suc n) u job = jobs_run (λ n u. Unit {0}) (λ n u e. tt) (λ n u e. tt) (λ u e s h. may) n u tt job

    nodes_go : (n u : ℕ) (t : Tree) → Runs (plan from kept short) u (eval code (jobs host code resumes n) t)
    nodes_go n u t = nodes_run (λ n u. Unit {0}) (λ n u e. tt) (λ n u e. tt) (λ u e s h. may) n u tt t

-- What is used grows. Nothing is asked of the host's state.
module _ {H : Type 0} (host : HostOf H) (code : Code) (resumes : ResumesOf H) (fair : IsFair host) where
  pub jobs_grow : (n : ℕ) (job : Job) → GrowsIn (jobs host code resumes n job)
  jobs_grow n job s r start = counted_grows (plan (used_of s) (λ h. Unit {0}) (Unit {0})) _ (fed_ready (plan (used_of s) (λ h. Unit {0}) (Unit {0})) (used_of s).instructions (jobs host code resumes n job s r)
      (jobs_go host code resumes fair (used_of s) (λ h. Unit {0}) (λ b args lines w k. tt) (λ i args lines w k. tt) (Unit {0}) tt n (used_of s).instructions job s r (begins s (λ h. Unit {0}) (Unit {0}) start tt))).counts

  pub nodes_grow : (n : ℕ) (t : Tree) → GrowsIn (eval code (jobs host code resumes n) t)
  nodes_grow n t s r start = counted_grows (plan (used_of s) (λ h. Unit {0}) (Unit {0})) _ (fed_ready (plan (used_of s) (λ h. Unit {0}) (Unit {0})) (used_of s).instructions (eval code (jobs host code resumes n) t s r)
      (nodes_go host code resumes fair (used_of s) (λ h. Unit {0}) (λ b args lines w k. tt) (λ i args lines w k. tt) (Unit {0}) tt n (used_of s).instructions t s r (begins s (λ h. Unit {0}) (Unit {0}) start tt))).counts

-- What the host's calls keep of its state stays.
module _ {H : Type 0} (host : HostOf H) (code : Code) (resumes : ResumesOf H) (fair : IsFair host) (keeps : H → Bool) (keep : KeepsState keeps host) where
  pub jobs_stay : (n : ℕ) (job : Job) → StaysIn keeps (jobs host code resumes n job)
  jobs_stay n job s r start k = (fed_ready (plan (used_of s) (λ h. IsTrue (keeps h)) (Unit {0})) (used_of s).instructions (jobs host code resumes n job s r)
      (jobs_go host code resumes fair (used_of s) (λ h. IsTrue (keeps h)) keep.call keep.step (Unit {0}) tt n (used_of s).instructions job s r (begins s (λ h. IsTrue (keeps h)) (Unit {0}) start k))).others.1

  pub nodes_stay : (n : ℕ) (t : Tree) → StaysIn keeps (eval code (jobs host code resumes n) t)
  nodes_stay n t s r start k = (fed_ready (plan (used_of s) (λ h. IsTrue (keeps h)) (Unit {0})) (used_of s).instructions (eval code (jobs host code resumes n) t s r)
      (nodes_go host code resumes fair (used_of s) (λ h. IsTrue (keeps h)) keep.call keep.step (Unit {0}) tt n (used_of s).instructions t s r (begins s (λ h. IsTrue (keeps h)) (Unit {0}) start k))).others.1

-- the fuel n suffices where u instructions are used
abbrev Suffices : Used → (n u : ℕ) → Type 0
Suffices from n u = from.most_instructions ≤ u + n

-- One more than the limit suffices as fuel.
module _ {H : Type 0} (host : HostOf H) (code : Code) (resumes : ResumesOf H) (fair : IsFair host) where
  abbrev ends : Used → Plan H
  ends from = plan from (λ h. Unit {0}) ⊥

  more : (from : Used) (n u : ℕ) → Suffices from n u → Suffices from n (u + 1)
  more from n u e = omega (arith, e)

  lower : (from : Used) (n u : ℕ) → Suffices from (suc n) u → Suffices from n (u + 1)
  lower from n u e = omega (arith, e)

  shorten : (from : Used) (u : ℕ) → Suffices from 0 u → (s : Store H) → Ready (ends from) (u + 1) s → ⊥
  shorten from u e s h = omega (arith, e, h.counts.since, h.counts.within)

  at_start : (s : Store H) → IsStart s → Ready (ends (used_of s)) (used_of s).instructions s
  at_start s start = begins s (λ h. Unit {0}) ⊥ start tt

  ended : (s : Store H) (o : Result H) → Fed (ends (used_of s)) (used_of s).instructions o → IsEnded o
  ended s o h = fed_ended (ends (used_of s)) (used_of s).instructions o (λ e. e) h

  pub jobs_end : (n : ℕ) (job : Job) → EndsWith n (jobs host code resumes n job)
  jobs_end zero job = λ s r start e. absurd (omega (arith, e, start.within.instructions))
  jobs_end (suc n) job = λ s r start e. ended s _ (jobs_run host code resumes fair (used_of s) (λ h. Unit {0}) (λ b args lines w k. tt) (λ i args lines w k. tt) ⊥ (Suffices (used_of s)) (more (used_of s)) (lower (used_of s)) (shorten (used_of s)) n (used_of s).instructions (omega (arith, e)) job s r (at_start s start))

  pub nodes_end : (n : ℕ) (t : Tree) → EndsWith (n + 1) (eval code (jobs host code resumes n) t)
  nodes_end n t s r start e = ended s _ (nodes_run host code resumes fair (used_of s) (λ h. Unit {0}) (λ b args lines w k. tt) (λ i args lines w k. tt) ⊥ (Suffices (used_of s)) (more (used_of s)) (lower (used_of s)) (shorten (used_of s)) n (used_of s).instructions (omega (arith, e)) t s r (at_start s start))

  pub operators_end : (n : ℕ) (op : BinOp) (a b : Value) (lines : List ℕ) → EndsWith (n + 1) (binary (jobs host code resumes n) op a b lines)
  operators_end n op a b lines s r start e = ended s _ (operators_run host code resumes fair (used_of s) (λ h. Unit {0}) (λ b args lines w k. tt) (λ i args lines w k. tt) ⊥ (Suffices (used_of s)) (more (used_of s)) (lower (used_of s)) (shorten (used_of s)) n (used_of s).instructions (omega (arith, e)) op a b lines s r (at_start s start))

  pub unary_operators_end : (n : ℕ) (op : UnOp) (a : Value) (lines : List ℕ) → EndsWith (n + 1) (unary (jobs host code resumes n) op a lines)
  unary_operators_end n op a lines s r start e = ended s _ (unary_operators_run host code resumes fair (used_of s) (λ h. Unit {0}) (λ b args lines w k. tt) (λ i args lines w k. tt) ⊥ (Suffices (used_of s)) (more (used_of s)) (lower (used_of s)) (shorten (used_of s)) n (used_of s).instructions (omega (arith, e)) op a lines s r (at_start s start))

  pub looks_end : (n : ℕ) (o key : Value) (lines : List ℕ) → EndsWith (n + 1) (look (jobs host code resumes n) o key lines)
  looks_end n o key lines s r start e = ended s _ (looks_run host code resumes fair (used_of s) (λ h. Unit {0}) (λ b args lines w k. tt) (λ i args lines w k. tt) ⊥ (Suffices (used_of s)) (more (used_of s)) (lower (used_of s)) (shorten (used_of s)) n (used_of s).instructions (omega (arith, e)) o key lines s r (at_start s start))

  pub puts_end : (n : ℕ) (o key x : Value) (lines : List ℕ) → EndsWith (n + 1) (put_at (jobs host code resumes n) o key x lines)
  puts_end n o key x lines s r start e = ended s _ (puts_run host code resumes fair (used_of s) (λ h. Unit {0}) (λ b args lines w k. tt) (λ i args lines w k. tt) ⊥ (Suffices (used_of s)) (more (used_of s)) (lower (used_of s)) (shorten (used_of s)) n (used_of s).instructions (omega (arith, e)) o key x lines s r (at_start s start))

-- Whole programs.
module _ {H : Type 0} (host : HostOf H) (code : Code) (fair : IsFair host) (root : Tree) (args : List Value) (s : Store H) (start : IsStart s) where
  abbrev fuel : ℕ
  fuel = suc (limit_of host code s)

  body : (kept : H → Type 0) (short : Type 0) (o : Result H) → Fed (plan (used_of s) kept short) (used_of s).instructions o → Fed (plan (used_of s) kept short) (used_of s).instructions (body_ends (main_call host code args) o)
  body kept short o h = body_ends_fed (plan (used_of s) kept short) (used_of s).instructions (main_call host code args) o h

  inside : (kept : H → Type 0) (short : Type 0) → kept (state_of s).host → Ready (plan (used_of s) kept short) (used_of s).instructions (with_call (main_call host code args) s)
  inside kept short k = with_call_ready (plan (used_of s) kept short) (used_of s).instructions (main_call host code args) s (begins s kept short start k)

  pub program_grows : Grows (used_of s) (used_of (store_of (program host code root args s)))
  program_grows = counted_grows (plan (used_of s) (λ h. Unit {0}) (Unit {0})) _ (fed_ready (plan (used_of s) (λ h. Unit {0}) (Unit {0})) (used_of s).instructions (program host code root args s)
      (body (λ h. Unit {0}) (Unit {0}) _ (nodes_go host code (resume host code fuel) fair (used_of s) (λ h. Unit {0}) (λ b args lines w k. tt) (λ i args lines w k. tt) (Unit {0}) tt fuel (used_of s).instructions root (with_call (main_call host code args) s) none (inside (λ h. Unit {0}) (Unit {0}) tt)))).counts

  pub program_stays : (keeps : H → Bool) → KeepsState keeps host → IsTrue (keeps (state_of s).host) → IsTrue (keeps (state_of (store_of (program host code root args s))).host)
  program_stays keeps keep k = (fed_ready (plan (used_of s) (λ h. IsTrue (keeps h)) (Unit {0})) (used_of s).instructions (program host code root args s)
      (body (λ h. IsTrue (keeps h)) (Unit {0}) _ (nodes_go host code (resume host code fuel) fair (used_of s) (λ h. IsTrue (keeps h)) keep.call keep.step (Unit {0}) tt fuel (used_of s).instructions root (with_call (main_call host code args) s) none (inside (λ h. IsTrue (keeps h)) (Unit {0}) k)))).others.1

  pub program_ends : IsEnded (program host code root args s)
  program_ends = fed_ended (ends host code (resume host code fuel) fair (used_of s)) (used_of s).instructions (program host code root args s) (λ e. e)
      (body (λ h. Unit {0}) ⊥ _ (nodes_run host code (resume host code fuel) fair (used_of s) (λ h. Unit {0}) (λ b args lines w k. tt) (λ i args lines w k. tt) ⊥ (Suffices (used_of s)) (more host code (resume host code fuel) fair (used_of s)) (lower host code (resume host code fuel) fair (used_of s)) (shorten host code (resume host code fuel) fair (used_of s)) fuel (used_of s).instructions (omega arith) root (with_call (main_call host code args) s) none (inside (λ h. Unit {0}) ⊥ tt)))
