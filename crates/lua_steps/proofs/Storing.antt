-- Where declarations and puts arrive.
use Rattle.std.proofs.Common.{◌≡◌, ◌∙◌, ℕ, zero, suc, ◌+◌, pos, List, [], ◌∷◌, length, drop, Bool, true, false, Option, Some, None, refl, sym, subst, ap, arith}
use Rattle.std.specs.Prelude.{codes, if◌then◌else◌}
use Rattle.zc_budget.specs.Used.{IsWithin, is_over}
use Rattle.zc_budget.specs.declared.budget.Stop.TheVariants as stop
use Rattle.lua_meaning.specs.declared.value.Value.{Value}
use Rattle.lua_meaning.specs.declared.value.Value.TheVariants as value
use Rattle.lua_meaning.specs.declared.variable.Slot.TheVariants as slot
use Rattle.lua_meaning.specs.Values.{first, is_nil}
use Rattle.lua_meaning.specs.Tables.{was_put}
use Rattle.lua_meaning.specs.Heap.{HeapOf, cell_bytes, key_bytes, with_cell, with_entry, table_at}
use Rattle.lua_meaning.specs.Store.{Stops, Resumptions, Result, Halt, heap_of, with_heap as with_heap_in}
use Rattle.lua_meaning.specs.Runs.{Run, charge_by, put, put_by as put_run}
use Rattle.lua_meaning.specs.Locals.{Locals, with_local, declare, declare_by, declare_all}
use Rattle.lua_meaning.specs.Laws.{Grows}
use Rattle.lua_meaning.specs.Nodes.{put_items}
use Rattle.lua_meaning.specs.Operators.{op_fails}
use Rattle.lua_values.specs.Charges.{paid}
use Rattle.lua_steps.specs.declared.mode.Mode.{Mode}
use Rattle.lua_steps.specs.declared.mode.Mode.TheVariants as mode
use Rattle.lua_steps.specs.Frames.{means}
use Rattle.lua_steps.specs.Configuration.{Configuration, Next, with_heap, with_locals}
use Rattle.lua_steps.specs.Effects.{ended_as, Declared, shared_by, declared_by, declared, declared_if, declared_all, new_key_by, put_by, put_in, put_then, put_all}
use Rattle.lua_steps.specs.Machine.{declaring, items_put}
use Rattle.lua_steps.proofs.Arriving.{Setting, Passes, as_store, Runs, Arrives, turned, settles, moved, pays, failed, grows_none, grows_on, grows_charged}

-- where a declaration leaves the configuration
abbrev pub declared_in : Declared → Configuration → Configuration
declared_in d x = with_heap d.heap (with_locals d.locals x)

module _ {H : Type 0} where
  abbrev pub after_declared : Bool → Run H → Run H
  after_declared true k s r = k s r
  after_declared false k s r = Halt (Stops stop.Memory) s r

module _ {H : Type 0} (c : Setting H) where
  -- A run that declares, and then goes on, comes to this.
  pub record Says (d : Declared) (x : Configuration) (run : Run H → Run H) : Type 0 where
    pub is : (k : Run H) (r : Resumptions H) → run k (as_store c x) r ≡ after_declared d.done k (as_store c (declared_in d x)) r
    pub grows : IsWithin x.heap.used → Grows x.heap.used d.heap.used

  shared_is : (v : ℕ) (a : Value) (x : Configuration) (over : Bool) (k : Run H) (r : Resumptions H) →
      charge_by over cell_bytes (λ s. k (with_local v (slot.Cell (length (heap_of s).cells)) (with_heap_in (with_cell (heap_of s) a) s))) (as_store c x) r ≡ after_declared (shared_by over v a x.heap x.call.locals).done k (as_store c (declared_in (shared_by over v a x.heap x.call.locals) x)) r
  shared_is v a x true k r = refl
  shared_is v a x false k r = refl

  shared_grows : (v : ℕ) (a : Value) (x : Configuration) (over : Bool) → is_over cell_bytes x.heap.used ≡ over → IsWithin x.heap.used → Grows x.heap.used (shared_by over v a x.heap x.call.locals).heap.used
  shared_grows v a x true e w = grows_none x.heap.used w
  shared_grows v a x false e w = grows_charged cell_bytes x.heap.used e w

  one_says : (v : ℕ) (a : Value) (x : Configuration) (captured : Bool) → Says (declared_by captured v a x.heap x.call.locals) x (declare_by captured v a)
  one_says v a x true = record { is = λ k r. shared_is v a x (is_over cell_bytes x.heap.used) k r; grows = shared_grows v a x (is_over cell_bytes x.heap.used) refl }
  one_says v a x false = record { is = λ k r. refl; grows = λ w. grows_none x.heap.used w }

  pub says_one : (v : ℕ) (a : Value) (x : Configuration) → Says (declared c.code v a x.heap x.call.locals) x (declare c.code v a)
  says_one v a x = one_says v a x (c.code.is_captured v)

  then_says : (d : Declared) (x : Configuration) (run : Run H → Run H) (next : Run H → Run H) (further : HeapOf → Locals → Declared) (t : Bool) → d.done ≡ t → Says d x run → Says (further d.heap d.locals) (declared_in d x) next → Says (declared_if c.code t d further) x (λ k. run (next k))
  then_says d x run next further true e h g = record {
    is = λ k r. h.is (next k) r ∙ ap (λ t. after_declared t (next k) (as_store c (declared_in d x)) r) e ∙ g.is k r;
    grows = λ w. (let f = h.grows w in grows_on x.heap.used d.heap.used (further d.heap d.locals).heap.used f (g.grows f.within));
  }
  then_says d x run next further false e h g = record {
    is = λ k r. h.is (next k) r ∙ ap (λ t. after_declared t (next k) (as_store c (declared_in d x)) r) e ∙ sym (ap (λ t. after_declared t k (as_store c (declared_in d x)) r) e);
    grows = h.grows;
  }

  pub says_all : (n v : ℕ) (xs : List Value) (x : Configuration) → Says (declared_all c.code v n xs x.heap x.call.locals) x (declare_all c.code v n xs)
  says_all zero v xs x = record { is = λ k r. refl; grows = λ w. grows_none x.heap.used w }
  says_all (suc n) v xs x =
      let d : Declared = declared c.code v (first xs) x.heap x.call.locals in
      then_says d x (declare c.code v (first xs)) (declare_all c.code (v + 1) n (drop 1 xs)) (λ h ls. declared_all c.code (v + 1) n (drop 1 xs) h ls) d.done refl (says_one v (first xs) x) (says_all n (v + 1) (drop 1 xs) (declared_in d x))

  -- what declares, within what is done with the outcome
  pub declares : {n p : ℕ} (x : Configuration) (d : Declared) (run : Run H → Run H) (g : ℕ → ℕ → Result H → Result H) (q : ℕ → ℕ → Run H) (k : Configuration → Next) → Passes g → Says d x run →
      Runs c n p x.heap.used x.frames (λ m j r. g m j (run (q m j) (as_store c x) r)) →
      (Runs c n p d.heap.used x.frames (λ m j r. g m j (q m j (as_store c (declared_in d x)) r)) → Arrives c (k (declared_in d x))) → Arrives c (declaring d k x)
  declares {n} {p} x d run g q k passes says h next =
      by d.done (moved c (turned c h (λ m j r. g m j (after_declared d.done (q m j) (as_store c (declared_in d x)) r)) (λ m j r. ap (g m j) (says.is (q m j) r))) d.heap.used (says.grows h.grows.within))
    where
      by : (t : Bool) → Runs c n p d.heap.used x.frames (λ m j r. g m j (after_declared t (q m j) (as_store c (declared_in d x)) r)) → Arrives c (if t then k (declared_in d x) else (mode.Stopped stop.Memory, declared_in d x))
      by true h = next h
      by false h = settles c h (mode.Stopped stop.Memory) (declared_in d x) (omega arith) (omega arith) (λ m j r. passes.stops m j stop.Memory (as_store c (declared_in d x)) r)

  -- What ends a put ends the step.
  abbrev EndsAs : Configuration → (Option Mode × HeapOf → Next) → Type 0
  EndsAs x to = (b : Mode) (h : HeapOf) → to (Some b, h) ≡ (b, with_heap h x)

  new_key : {n p : ℕ} (x : Configuration) (t : ℕ) (key v : Value) (g : ℕ → ℕ → Result H → Result H) (q : ℕ → ℕ → Run H) (to : Option Mode × HeapOf → Next) → Passes g → EndsAs x to →
      ((h : HeapOf) → Runs c n p h.used x.frames (λ m j r. g m j (q m j (as_store c (with_heap h x)) r)) → Arrives c (to (None, h))) → (over : Bool) → is_over key_bytes x.heap.used ≡ over →
      Runs c n p x.heap.used x.frames (λ m j r. g m j (charge_by over key_bytes (λ s. q m j (with_heap_in (with_entry (heap_of s) t key v) s)) (as_store c x) r)) → Arrives c (to (new_key_by over t key v x.heap))
  new_key x t key v g q to passes ends next true e h = subst (Arrives c) (sym (ends (mode.Stopped stop.Memory) x.heap)) (settles c h (mode.Stopped stop.Memory) x (omega arith) (omega arith) (λ m j r. passes.stops m j stop.Memory (as_store c x) r))
  new_key x t key v g q to passes ends next false e h = next (with_entry (paid key_bytes x.heap) t key v) (pays c h key_bytes e)

  puts_by : {n p : ℕ} (x : Configuration) (t : ℕ) (key v : Value) (g : ℕ → ℕ → Result H → Result H) (q : ℕ → ℕ → Run H) (to : Option Mode × HeapOf → Next) → Passes g → EndsAs x to →
      ((h : HeapOf) → Runs c n p h.used x.frames (λ m j r. g m j (q m j (as_store c (with_heap h x)) r)) → Arrives c (to (None, h))) → (there nothing : Bool) →
      Runs c n p x.heap.used x.frames (λ m j r. g m j (put_run there nothing t key v (q m j) (as_store c x) r)) → Arrives c (to (put_by there nothing t key v x.heap))
  puts_by x t key v g q to passes ends next true nothing h = next (with_entry x.heap t key v) h
  puts_by x t key v g q to passes ends next false true h = next x.heap h
  puts_by x t key v g q to passes ends next false false h = new_key x t key v g q to passes ends next (is_over key_bytes x.heap.used) refl h

  -- what puts a value into a table, within what is done with the outcome
  pub puts : {n p : ℕ} (x : Configuration) (lines : List ℕ) (t : ℕ) (key v : Value) (g : ℕ → ℕ → Result H → Result H) (q : ℕ → ℕ → Run H) (to : Option Mode × HeapOf → Next) → Passes g → EndsAs x to →
      ((h : HeapOf) → Runs c n p h.used x.frames (λ m j r. g m j (q m j (as_store c (with_heap h x)) r)) → Arrives c (to (None, h))) →
      Runs c n p x.heap.used x.frames (λ m j r. g m j (put lines t key v (q m j) (as_store c x) r)) → Arrives c (to (put_in lines t key v x.heap))
  puts x lines t value.Nil v g q to passes ends next h = subst (Arrives c) (sym (ends (ended_as (op_fails lines (codes "table index is nil") x.heap).0) (op_fails lines (codes "table index is nil") x.heap).1)) (failed c x g lines (codes "table index is nil") passes h)
  puts x lines t key v g q to passes ends next h = puts_by x t key v g q to passes ends next (was_put (table_at x.heap t).pairs key) (is_nil v) h

  -- values at n and the numbers behind it
  pub puts_all : (xs : List Value) (n : ℕ) (x : Configuration) (lines : List ℕ) (node next t : ℕ) → Runs c 1 0 x.heap.used x.frames (λ m j r. put_items lines t n xs (λ d. means c.host c.code c.nodes m j (mode.Fields node next t d)) (as_store c x) r) → Arrives c (items_put c.nodes (put_all lines t n xs x.heap) node next t x)
  puts_all [] n x lines node next t h = h
  puts_all (v ∷ vs) n x lines node next t h = puts x lines t (value.Int (pos n)) v (λ m j o. o) (λ m j. put_items lines t (n + 1) vs (λ d. means c.host c.code c.nodes m j (mode.Fields node next t d)))
      (λ p. items_put c.nodes (put_then p n (λ h. put_all lines t (n + 1) vs h)) node next t x) (record { raises = λ m j v s r. refl; stops = λ m j st s r. refl }) (λ b h. refl) (λ h runs. puts_all vs (n + 1) (with_heap h x) lines node next t runs) h
