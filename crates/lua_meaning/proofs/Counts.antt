-- What every part of a program keeps: the limits are as they were, nothing that was used is given back, no limit is passed, and the coroutines and the host's state stay. Whether the fuel suffices is left open.
use Rattle.std.proofs.Common.{◌≡◌, ℕ, ◌+◌, ◌≤◌, List, true, false, Bool, refl, arith}
use Rattle.std.proofs.lemmas.Bool.{eqb-false, ltb-false}
use Rattle.zc_budget.specs.Used.{Used, is_spent, ticked, is_over, charged}
use Rattle.lua_meaning.specs.declared.value.Value.{Value}
use Rattle.lua_meaning.specs.Store.{ThreadOf, state_of, Store, store, Resumptions, Result, Go, Halt, Ending, Breaks, Jumps, Returns, Raises, Stops, Yields, OutOfFuel}
use Rattle.lua_meaning.specs.Runs.{used_of, Run, after, tick, tick_by, charge, charge_by, fails}
use Rattle.lua_meaning.specs.Locals.{cut}
use Rattle.lua_meaning.specs.Nodes.{closed, loop_ends}

-- What is to be kept: the limits and bytes from which a run sets out, what holds of the coroutines, the running one and the host's state, and what holds where fuel runs out.
pub record Plan (H : Type 0) : Type 1 where
  pub from : Used
  pub Others : List ThreadOf → ℕ → H → Type 0
  pub Short : Type 0

module _ {H : Type 0} where
  -- at least u instructions are used and at least the bytes of the plan, and at most its limits
  pub record Counted (l : Plan H) (u : ℕ) (c : Used) : Type 0 where
    pub limit_is : c.most_instructions ≡ l.from.most_instructions
    pub since : u ≤ c.instructions
    pub within : c.instructions ≤ l.from.most_instructions
    pub most_bytes_is : c.most_bytes ≡ l.from.most_bytes
    pub bytes_since : l.from.bytes ≤ c.bytes
    pub bytes_within : c.bytes ≤ l.from.most_bytes

  pub record Ready (l : Plan H) (u : ℕ) (s : Store H) : Type 0 where
    pub counts : Counted l u (used_of s)
    pub others : l.Others (state_of s).threads (state_of s).running (state_of s).host

  abbrev pub Halted : Plan H → ℕ → Ending → Store H → Type 0
  Halted l u OutOfFuel s = l.Short × Ready l u s
  Halted l u (Jumps x) s = Ready l (u + 1) s
  Halted l u Breaks s = Ready l u s
  Halted l u (Returns vs) s = Ready l u s
  Halted l u (Raises v) s = Ready l u s
  Halted l u (Stops st) s = Ready l u s
  Halted l u (Yields vs) s = Ready l u s

  abbrev pub Fed : Plan H → ℕ → Result H → Type 0
  Fed l u (Go vs s r) = Ready l u s
  Fed l u (Halt e s r) = Halted l u e s

  abbrev pub Runs : Plan H → ℕ → Run H → Type 0
  Runs l u k = (s : Store H) (r : Resumptions H) → Ready l u s → Fed l u (k s r)

  pub less_counted : (l : Plan H) (u : ℕ) (c : Used) → Counted l (u + 1) c → Counted l u c
  less_counted l u c h = record { limit_is = h.limit_is; since = omega (arith, h.since); within = h.within; most_bytes_is = h.most_bytes_is; bytes_since = h.bytes_since; bytes_within = h.bytes_within }

  pub less : {l : Plan H} {u : ℕ} {s : Store H} → Ready l (u + 1) s → Ready l u s
  less {l} {u} {s} h = record { counts = less_counted l u (used_of s) h.counts; others = h.others }

  less_halted : (l : Plan H) (u : ℕ) (e : Ending) (s : Store H) → Halted l (u + 1) e s → Halted l u e s
  less_halted l u OutOfFuel s h = (h.0, less h.1)
  less_halted l u (Jumps x) s h = less h
  less_halted l u Breaks s h = less h
  less_halted l u (Returns vs) s h = less h
  less_halted l u (Raises v) s h = less h
  less_halted l u (Stops st) s h = less h
  less_halted l u (Yields vs) s h = less h

  pub less_fed : (l : Plan H) (u : ℕ) (o : Result H) → Fed l (u + 1) o → Fed l u o
  less_fed l u (Go vs s r) h = less h
  less_fed l u (Halt e s r) h = less_halted l u e s h

  pub after_fed : (l : Plan H) (u : ℕ) (o : Result H) (k : List Value → Run H) → Fed l u o → ((vs : List Value) → Runs l u (k vs)) → Fed l u (after o k)
  after_fed l u (Go vs s r) k h f = f vs s r h
  after_fed l u (Halt e s r) k h f = h

  pub ticked_counted : (l : Plan H) (u : ℕ) (c : Used) → is_spent c ≡ false → Counted l u c → Counted l (u + 1) (ticked c)
  ticked_counted l u c e h = record { limit_is = h.limit_is; since = omega (arith, h.since); within = room (eqb-false _ _ e); most_bytes_is = h.most_bytes_is; bytes_since = h.bytes_since; bytes_within = h.bytes_within }
    where
      room : (c.instructions ≡ c.most_instructions → ⊥) → c.instructions + 1 ≤ l.from.most_instructions
      room other = omega (arith, h.within, h.limit_is, other)

  pub charged_counted : (l : Plan H) (u n : ℕ) (c : Used) → is_over n c ≡ false → Counted l u c → Counted l u (charged n c)
  charged_counted l u n c e h = record { limit_is = h.limit_is; since = h.since; within = h.within; most_bytes_is = h.most_bytes_is; bytes_since = omega (arith, h.bytes_since); bytes_within = omega (arith, ltb-false c.most_bytes (c.bytes + n) e, h.most_bytes_is) }

  pub tick_to : (l : Plan H) (u : ℕ) (k : Run H) → ((s : Store H) (r : Resumptions H) → Ready l (u + 1) s → Fed l u (k s r)) → Runs l u (tick k)
  tick_to l u k f (store x b c rs) r h = by (is_spent x.heap.used) refl
    where
      by : (t : Bool) → is_spent x.heap.used ≡ t → Fed l u (tick_by t k (store x b c rs) r)
      by true e = h
      by false e = f _ r (record { counts = ticked_counted l u x.heap.used e h.counts; others = h.others })

  pub tick_fed : (l : Plan H) (u : ℕ) (k : Run H) → Runs l (u + 1) k → Runs l u (tick k)
  tick_fed l u k f = tick_to l u k (λ s r h. less_fed l u _ (f s r h))

  pub charge_fed : (l : Plan H) (u n : ℕ) (k : Run H) → Runs l u k → Runs l u (charge n k)
  charge_fed l u n k f (store x b c rs) r h = by (is_over n x.heap.used) refl
    where
      by : (t : Bool) → is_over n x.heap.used ≡ t → Fed l u (charge_by t n k (store x b c rs) r)
      by true e = h
      by false e = f _ r (record { counts = charged_counted l u n x.heap.used e h.counts; others = h.others })

  pub fails_fed : (l : Plan H) (u : ℕ) (lines text : List ℕ) → Runs l u (fails lines text)
  fails_fed l u lines text = charge_fed l u _ _ (λ s r h. h)

  pub cut_ready : (l : Plan H) (u n : ℕ) (s : Store H) → Ready l u s → Ready l u (cut n s)
  cut_ready l u n (store x b c rs) h = record { counts = h.counts; others = h.others }

  pub closed_fed : (l : Plan H) (u n : ℕ) (o : Result H) → Fed l u o → Fed l u (closed n o)
  closed_fed l u n (Go vs s r) h = cut_ready l u n s h
  closed_fed l u n (Halt e s r) h = h

  pub loop_ends_fed : (l : Plan H) (u n : ℕ) (o : Result H) → Fed l u o → Fed l u (loop_ends n o)
  loop_ends_fed l u n (Go vs s r) h = h
  loop_ends_fed l u n (Halt Breaks s r) h = cut_ready l u n s h
  loop_ends_fed l u n (Halt OutOfFuel s r) h = h
  loop_ends_fed l u n (Halt (Jumps x) s r) h = h
  loop_ends_fed l u n (Halt (Returns vs) s r) h = h
  loop_ends_fed l u n (Halt (Raises v) s r) h = h
  loop_ends_fed l u n (Halt (Stops st) s r) h = h
  loop_ends_fed l u n (Halt (Yields vs) s r) h = h
