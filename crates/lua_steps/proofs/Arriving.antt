-- Where a step arrives, from the front: an outcome that the frames make the whole of, which is worked out until a mode means it.
use Rattle.std.proofs.Common.{◌≡◌, ◌∙◌, ℕ, zero, suc, ◌+◌, ◌<◌, ◌≤◌, List, ◌∷◌, length, Bool, true, false, refl, sym, subst, ap, arith}
use Rattle.std.proofs.lemmas.Bool.{eqb-false, ltb-false}
use Rattle.std.specs.Prelude.{nat_lt, codes, if◌then◌else◌}
use Rattle.zc_budget.specs.Used.{Used, IsWithin, is_spent, ticked, is_over, charged}
use Rattle.zc_budget.specs.declared.budget.Stop.{Stop}
use Rattle.zc_budget.specs.declared.budget.Stop.TheVariants as stop
use Rattle.lua_ast.specs.declared.node.LinedNode.{LinedNode}
use Rattle.lua_meaning.specs.declared.value.Value.{Value}
use Rattle.lua_meaning.specs.declared.value.Value.TheVariants as value
use Rattle.lua_meaning.specs.Heap.{text_bytes}
use Rattle.lua_meaning.specs.Store.{Store, Raises, Stops, Resumptions, Result, Halt}
use Rattle.lua_meaning.specs.Code.{Code}
use Rattle.lua_meaning.specs.Runs.{Run, error_text, tick, tick_by as run_by, halt, charge_by, fails, if_few as few_run}
use Rattle.lua_meaning.specs.Jobs.{HostOf}
use Rattle.lua_meaning.specs.Laws.{Grows}
use Rattle.lua_meaning.specs.Operators.{Raise, Stopped}
use Rattle.lua_coroutines.specs.declared.frame.Frame.{Frame}
use Rattle.lua_steps.specs.declared.mode.Mode.{Mode}
use Rattle.lua_steps.specs.declared.mode.Mode.TheVariants as mode
use Rattle.lua_steps.specs.Frames.{goes_on, means}
use Rattle.lua_steps.specs.Works.{spare, need, Leads, Works}
use Rattle.lua_steps.specs.Configuration.{Configuration, Next, with_heap, with_tick, tick_by, ticking}
use Rattle.lua_steps.specs.Effects.{ended_with, failing, few_by, if_few}
use Rattle.lua_steps.specs.Keeping.{store_with, Keeps}
use Rattle.lua_steps.proofs.Steps.{later}

pub grows_none : (u : Used) → IsWithin u → Grows u u
grows_none u w = record { same_most_instructions = refl; same_most_bytes = refl; instructions = omega arith; bytes = omega arith; within = w }

pub grows_on : (a b d : Used) → Grows a b → Grows b d → Grows a d
grows_on a b d f g = record {
  same_most_instructions = g.same_most_instructions ∙ f.same_most_instructions;
  same_most_bytes = g.same_most_bytes ∙ f.same_most_bytes;
  instructions = omega (arith, f.instructions, g.instructions);
  bytes = omega (arith, f.bytes, g.bytes);
  within = g.within;
}

pub grows_ticked : (u : Used) → is_spent u ≡ false → IsWithin u → Grows u (ticked u)
grows_ticked u e w = record { same_most_instructions = refl; same_most_bytes = refl; instructions = omega arith; bytes = omega arith; within = record { instructions = room (eqb-false _ _ e); bytes = w.bytes } }
  where
    room : (u.instructions ≡ u.most_instructions → ⊥) → u.instructions + 1 ≤ u.most_instructions
    room other = omega (arith, w.instructions, other)

pub grows_charged : (n : ℕ) (u : Used) → is_over n u ≡ false → IsWithin u → Grows u (charged n u)
grows_charged n u e w = record { same_most_instructions = refl; same_most_bytes = refl; instructions = omega arith; bytes = omega arith; within = record { instructions = w.instructions; bytes = omega (arith, ltb-false u.most_bytes (u.bytes + n) e) } }

-- What is the same all along a step; `from` is used before it.
pub record Setting (H : Type 0) : Type 0 where
  pub host : HostOf H
  pub code : Code
  pub nodes : List LinedNode
  pub beside : Store H
  pub ended : ℕ
  pub whole : ℕ → Resumptions H → Result H
  pub from : Used

module _ {H : Type 0} where
  -- what is done with an outcome leaves errors and stops as they are
  pub record Passes (g : ℕ → ℕ → Result H → Result H) : Type 0 where
    pub raises : (m j : ℕ) (v : Value) (s : Store H) (r : Resumptions H) → g m j (Halt (Raises v) s r) ≡ Halt (Raises v) s r
    pub stops : (m j : ℕ) (st : Stop) (s : Store H) (r : Resumptions H) → g m j (Halt (Stops st) s r) ≡ Halt (Stops st) s r

  abbrev pub as_it_is : ℕ → ℕ → Result H → Result H
  as_it_is m j o = o

  pub as_it_is_passes : Passes as_it_is
  as_it_is_passes = record { raises = λ m j v s r. refl; stops = λ m j st s r. refl }

module _ {H : Type 0} (c : Setting H) where
  abbrev pub as_store : Configuration → Store H
  as_store x = store_with x c.beside

  -- The frames make the whole of an outcome, which is given by the fuels and by what a rerun has left. There is fuel for n more than the limit leaves, and p instructions are used that the frames weren't given yet.
  pub record Runs (n p : ℕ) (u : Used) (fs : List Frame) (o : ℕ → ℕ → Resumptions H → Result H) : Type 0 where
    pub grows : Grows c.from u
    pub ends : (m : ℕ) (r : Resumptions H) → c.ended ≤ m → (fuel since : ℕ) × (u.most_instructions + n < u.instructions + fuel) × (since + p ≤ u.instructions) × Leads c.host c.code c.nodes m u.most_instructions since fs (o m fuel r) (c.whole m r)

  -- a mode above the frames
  abbrev pub Arrives : Next → Type 0
  Arrives y = Runs (need y.0) (spare y.0) y.1.heap.used y.1.frames (λ m j r. means c.host c.code c.nodes m j y.0 (as_store y.1) r)

  pub departs : (x : Configuration) (a : Mode) → Grows c.from x.heap.used → Works c.host c.code c.nodes c.ended (as_store x) x.frames a c.whole → Arrives (a, x)
  departs x a g h = record { grows = g; ends = λ m r le. (let w = h.ends m r le in (w.fuel, w.since, w.enough, w.before, w.leads)) }

  pub works_there : (y : Next) → Arrives y → Works c.host c.code c.nodes c.ended (as_store y.1) y.1.frames y.0 c.whole
  works_there y h = record { ends = λ m r le. (let w = h.ends m r le in record { fuel = w.0; enough = w.2; since = w.1; before = w.3; leads = w.4 }) }

  -- another outcome that is the same
  pub turned : {n p : ℕ} {u : Used} {fs : List Frame} {o : ℕ → ℕ → Resumptions H → Result H} → Runs n p u fs o → (o' : ℕ → ℕ → Resumptions H → Result H) → ((m j : ℕ) (r : Resumptions H) → o m j r ≡ o' m j r) → Runs n p u fs o'
  turned {n} {p} {u} {fs} {o} h o' same = record {
    grows = h.grows;
    ends = λ m r le. (let w = h.ends m r le in (w.0, w.1, w.2, w.3, subst (λ z. Leads c.host c.code c.nodes m u.most_instructions w.1 fs z (c.whole m r)) (same m w.0 r) w.4));
  }

  -- a mode that means it
  pub settles : {n p : ℕ} {u : Used} {fs : List Frame} {o : ℕ → ℕ → Resumptions H → Result H} → Runs n p u fs o → (b : Mode) (y : Configuration) → need b ≤ n → spare b ≤ p →
      ((m j : ℕ) (r : Resumptions H) → o m j r ≡ means c.host c.code c.nodes m j b (as_store y) r) → Runs (need b) (spare b) u fs (λ m j r. means c.host c.code c.nodes m j b (as_store y) r)
  settles {n} {p} {u} {fs} {o} h b y e f same = record {
    grows = h.grows;
    ends = λ m r le. (let w = h.ends m r le in (w.0, w.1, omega (arith, w.2, e), omega (arith, w.3, f), subst (λ z. Leads c.host c.code c.nodes m u.most_instructions w.1 fs z (c.whole m r)) (same m w.0 r) w.4));
  }

  -- more is used
  pub moved : {n p : ℕ} {u : Used} {fs : List Frame} {o : ℕ → ℕ → Resumptions H → Result H} → Runs n p u fs o → (v : Used) → Grows u v → Runs n p v fs o
  moved {n} {p} {u} {fs} {o} h v g = record {
    grows = grows_on c.from u v h.grows g;
    ends = λ m r le. (let w = h.ends m r le in (w.0, w.1, omega (arith, w.2, g.instructions, g.same_most_instructions), omega (arith, w.3, g.instructions), subst (λ z. Leads c.host c.code c.nodes m z w.1 fs (o m w.0 r) (c.whole m r)) (sym g.same_most_instructions) w.4));
  }

  pub pays : {n p : ℕ} {u : Used} {fs : List Frame} {o : ℕ → ℕ → Resumptions H → Result H} → Runs n p u fs o → (bytes : ℕ) → is_over bytes u ≡ false → Runs n p (charged bytes u) fs o
  pays {u = u} h bytes e = moved h (charged bytes u) (grows_charged bytes u e h.grows.within)

  -- a frame more
  pub pushes_at : {n p : ℕ} {u : Used} {fs : List Frame} {o : ℕ → ℕ → Resumptions H → Result H} → Runs n p u fs o → (f : Frame) (b : Mode) (y : Configuration) → spare b ≡ 0 →
      ((m i : ℕ) (r : Resumptions H) → u.most_instructions + n < u.instructions + i → (j k : ℕ) × (u.most_instructions + 1 < u.instructions + j) × (u.most_instructions + need b < u.instructions + k) × (o m i r ≡ goes_on c.host c.code c.nodes m j f (means c.host c.code c.nodes m k b (as_store y) r))) →
      Runs (need b) (spare b) u (f ∷ fs) (λ m j r. means c.host c.code c.nodes m j b (as_store y) r)
  pushes_at {n} {p} {u} {fs} {o} h f b y z e = record {
    grows = h.grows;
    ends = λ m r le.
        (let w = h.ends m r le in
        let k = e m w.0 r w.2 in
        (k.1, u.instructions, k.3, omega (arith, z), (k.0, k.2, later c.host c.code c.nodes m u.most_instructions w.1 u.instructions fs _ (c.whole m r) (omega (arith, w.3)) (subst (λ z. Leads c.host c.code c.nodes m u.most_instructions w.1 fs z (c.whole m r)) k.4 w.4))));
  }

  pub pushes : {n p : ℕ} {u : Used} {fs : List Frame} {o : ℕ → ℕ → Resumptions H → Result H} → Runs n p u fs o → (f : Frame) (b : Mode) (y : Configuration) → spare b ≡ 0 → 1 ≤ n → need b ≤ n →
      ((m j : ℕ) (r : Resumptions H) → o m j r ≡ goes_on c.host c.code c.nodes m j f (means c.host c.code c.nodes m j b (as_store y) r)) →
      Runs (need b) (spare b) u (f ∷ fs) (λ m j r. means c.host c.code c.nodes m j b (as_store y) r)
  pushes h f b y z one e same = pushes_at h f b y z (λ m i r x. (i, i, omega (arith, x, one), omega (arith, x, e), same m i r))

  -- the top frame is taken off
  pub pops : {n : ℕ} {u : Used} {f : Frame} {fs : List Frame} → (p : ℕ) (o : ℕ → Resumptions H → Result H) → Runs n p u (f ∷ fs) (λ m j r. o m r) → Runs (1 + p) p u fs (λ m j r. goes_on c.host c.code c.nodes m j f (o m r))
  pops p o h = record { grows = h.grows; ends = λ m r le. (let w = h.ends m r le in (w.4.0, w.1, omega (arith, w.3, w.4.1), w.3, w.4.2)) }

  -- what lowers the fuel, after its instruction
  pub lowers : {p : ℕ} {u : Used} {fs : List Frame} {o : ℕ → ℕ → Resumptions H → Result H} → (n : ℕ) → Runs (n + 1) p u fs o → (o' : ℕ → ℕ → Resumptions H → Result H) → ((m j : ℕ) (r : Resumptions H) → o m (suc j) r ≡ o' m j r) → Runs n p u fs o'
  lowers {p} {u} {fs} {o} n h o' same = record { grows = h.grows; ends = λ m r le. (let w = h.ends m r le in by m r w.0 w.1 w.2 w.3 w.4) }
    where
      by : (m : ℕ) (r : Resumptions H) (fuel since : ℕ) → u.most_instructions + (n + 1) < u.instructions + fuel → since + p ≤ u.instructions → Leads c.host c.code c.nodes m u.most_instructions since fs (o m fuel r) (c.whole m r) →
          (fuel since : ℕ) × (u.most_instructions + n < u.instructions + fuel) × (since + p ≤ u.instructions) × Leads c.host c.code c.nodes m u.most_instructions since fs (o' m fuel r) (c.whole m r)
      by m r zero since x y z = absurd (omega (arith, x, h.grows.within.instructions))
      by m r (suc i) since x y z = (i, since, omega (arith, x), y, subst (λ q. Leads c.host c.code c.nodes m u.most_instructions since fs q (c.whole m r)) (same m i r) z)

  -- an instruction, within what is done with the outcome
  pub ticks : {n p : ℕ} (x : Configuration) (g : ℕ → ℕ → Result H → Result H) (q : ℕ → ℕ → Run H) (k : Configuration → Next) → Passes g →
      Runs n p x.heap.used x.frames (λ m j r. g m j (tick (q m j) (as_store x) r)) →
      (Runs (n + 1) (p + 1) (ticked x.heap.used) x.frames (λ m j r. g m j (q m j (as_store (with_tick x)) r)) → Arrives (k (with_tick x))) → Arrives (ticking k x)
  ticks {n} {p} x g q k passes h next = by (is_spent x.heap.used) refl
    where
      by : (t : Bool) → is_spent x.heap.used ≡ t → Arrives (tick_by t k x)
      by true e = settles h (mode.Stopped stop.Instructions) x (omega arith) (omega arith) (λ m j r. ap (λ t. g m j (run_by t (q m j) (as_store x) r)) e ∙ passes.stops m j stop.Instructions (as_store x) r)
      by false e = next (record {
        grows = grows_on c.from x.heap.used (ticked x.heap.used) h.grows (grows_ticked x.heap.used e h.grows.within);
        ends = λ m r le. (let w = h.ends m r le in (w.0, w.1, omega (arith, w.2), omega (arith, w.3), subst (λ z. Leads c.host c.code c.nodes m x.heap.used.most_instructions w.1 x.frames z (c.whole m r)) (ap (λ t. g m w.0 (run_by t (q m w.0) (as_store x) r)) e) w.4));
      })

  -- a text is raised
  pub failed : {n p : ℕ} (x : Configuration) (g : ℕ → ℕ → Result H → Result H) (lines text : List ℕ) → Passes g → Runs n p x.heap.used x.frames (λ m j r. g m j (fails lines text (as_store x) r)) → Arrives (failing lines text x)
  failed {n} {p} x g lines text passes h = by (is_over (text_bytes (error_text lines text)) x.heap.used) refl h
    where
      by : (t : Bool) → is_over (text_bytes (error_text lines text)) x.heap.used ≡ t → Runs n p x.heap.used x.frames (λ m j r. g m j (charge_by t (text_bytes (error_text lines text)) (halt (Raises (value.Text (error_text lines text)))) (as_store x) r)) →
          Arrives (ended_with (if t then (Stopped stop.Memory, x.heap) else (Raise (value.Text (error_text lines text)), record x.heap { used = charged (text_bytes (error_text lines text)) x.heap.used })) x)
      by true e h = settles h (mode.Stopped stop.Memory) x (omega arith) (omega arith) (λ m j r. passes.stops m j stop.Memory (as_store x) r)
      by false e h = settles (pays h (text_bytes (error_text lines text)) e) (mode.Raise (value.Text (error_text lines text))) (with_heap (record x.heap { used = charged (text_bytes (error_text lines text)) x.heap.used }) x) (omega arith) (omega arith)
          (λ m j r. passes.raises m j (value.Text (error_text lines text)) (as_store (with_heap (record x.heap { used = charged (text_bytes (error_text lines text)) x.heap.used }) x)) r)

  -- a list that may have too many values
  pub few : {n p : ℕ} (x : Configuration) (g : ℕ → ℕ → Result H → Result H) (lines : List ℕ) (vs : List Value) (q : ℕ → ℕ → Run H) (b : Mode) → Passes g →
      Runs n p x.heap.used x.frames (λ m j r. g m j (few_run lines vs (q m j) (as_store x) r)) →
      (Runs n p x.heap.used x.frames (λ m j r. g m j (q m j (as_store x) r)) → Arrives (b, x)) → Arrives (if_few lines vs b x)
  few {n} {p} x g lines vs q b passes h next = by (nat_lt 250 (length vs)) h
    where
      by : (t : Bool) → Runs n p x.heap.used x.frames (λ m j r. g m j ((if t then fails lines (codes "too many values") else q m j) (as_store x) r)) → Arrives (few_by t lines b x)
      by true h = failed x g lines (codes "too many values") passes h
      by false h = next h

  pub kept : (x : Configuration) (y : Next) → c.from ≡ x.heap.used → Arrives y → Keeps c.host c.code c.nodes c.ended c.whole c.beside x y
  kept x y e h = record { works = works_there y h; grows = subst (λ u. Grows u y.1.heap.used) e h.grows }
