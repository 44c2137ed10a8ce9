-- What a machine does to its heap and its locals keeps its numbers its own.
use Rattle.std.proofs.Common.{ℕ, zero, suc, ◌+◌, pos, List, [], ◌∷◌, length, drop, Bool, true, false, Option, Some, None, arith, All, length-append, length-set}
use Rattle.std.proofs.lemmas.List.Elements.{All-cons, All-push, All-take}
use Rattle.std.specs.Prelude.{nat_lt, codes, if◌then◌else◌}
use Rattle.zc_budget.specs.Used.{is_spent, is_over, charged}
use Rattle.zc_budget.specs.declared.budget.Stop.TheVariants as stop
use Rattle.lua_meaning.specs.declared.value.Value.{Value}
use Rattle.lua_meaning.specs.declared.value.Value.TheVariants as value
use Rattle.lua_meaning.specs.declared.variable.Slot.TheVariants as slot
use Rattle.lua_meaning.specs.Values.{first, is_nil}
use Rattle.lua_meaning.specs.Tables.{was_put, with_pair}
use Rattle.lua_meaning.specs.Heap.{HeapOf, cell_bytes, key_bytes, text_bytes, with_cell, with_entry, table_at}
use Rattle.lua_meaning.specs.Store.{CallOf}
use Rattle.lua_meaning.specs.Code.{Code}
use Rattle.lua_meaning.specs.Runs.{error_text}
use Rattle.lua_meaning.specs.Locals.{Locals}
use Rattle.lua_meaning.specs.Operators.{Raise, Stopped, op_fails}
use Rattle.lua_values.specs.Charges.{paid}
use Rattle.lua_values.specs.Ids.{Ids, ids_of, AreLater, IsOf}
use Rattle.lua_coroutines.specs.declared.frame.Frame.{Frame}
use Rattle.lua_steps.specs.declared.mode.Mode.{Mode}
use Rattle.lua_steps.specs.declared.mode.Mode.TheVariants as mode
use Rattle.lua_steps.specs.declared.given.Given.{Given}
use Rattle.lua_steps.specs.declared.given.Given.TheVariants as given
use Rattle.lua_steps.specs.Configuration.{Configuration, Next, with_heap, with_tick, tick_by, ticking, taken_up}
use Rattle.lua_steps.specs.Effects.{ended_with, failing, few_by, if_few, Declared, shared_by, declared_by, declared, declared_if, declared_all, new_key_by, put_by, failed_put, put_in, or_else, putting, PutAll, put_then, put_all}
use Rattle.lua_steps.specs.Machine.{declaring}
use Rattle.lua_steps.specs.Own.{AreOf, IsOwnLocal, IsOwnFrame, IsOwnMode, IsOwnGiven, AreOfHeap, IsOwnNext}
use Rattle.lua_steps.proofs.Storing.{declared_in}
use Rattle.lua_steps.proofs.Later.{values_later, locals_later, call_later, frames_later}
use Rattle.lua_steps.proofs.OwnGiven.{first_own, none_own, drop_own}

pub same_later : (a : Ids) → AreLater a a
same_later a = record { tables = omega arith; cells = omega arith; closures = omega arith; iters = omega arith; threads = omega arith }

pub later_on : (a b d : Ids) → AreLater a b → AreLater b d → AreLater a d
later_on a b d f g = record { tables = omega (arith, f.tables, g.tables); cells = omega (arith, f.cells, g.cells); closures = omega (arith, f.closures, g.closures); iters = omega (arith, f.iters, g.iters); threads = omega (arith, f.threads, g.threads) }

pub cell_later : (h : HeapOf) (v : Value) → AreLater (ids_of h) (ids_of (with_cell h v))
cell_later h v = record { tables = omega arith; cells = omega (arith, length-append h.cells (v ∷ [])); closures = omega arith; iters = omega arith; threads = omega arith }

pub entry_later : (h : HeapOf) (t : ℕ) (k v : Value) → AreLater (ids_of h) (ids_of (with_entry h t k v))
entry_later h t k v = record { tables = omega (arith, length-set h.tables t (record (table_at h t) { pairs = with_pair (table_at h t).pairs k v })); cells = omega arith; closures = omega arith; iters = omega arith; threads = omega arith }

-- locals that are declared
pub record IsOwnDeclared (ids : Ids) (d : Declared) : Type 0 where
  pub later : AreLater ids (ids_of d.heap)
  pub locals : All (IsOwnLocal (ids_of d.heap)) d.locals

shared_own : (over : Bool) (v : ℕ) (a : Value) (h : HeapOf) (ls : Locals) → IsOf (ids_of h) a → All (IsOwnLocal (ids_of h)) ls → IsOwnDeclared (ids_of h) (shared_by over v a h ls)
shared_own true v a h ls p q = record { later = same_later (ids_of h); locals = q }
shared_own false v a h ls p q = record {
  later = cell_later (paid cell_bytes h) a;
  locals = All-push (IsOwnLocal (ids_of (with_cell (paid cell_bytes h) a))) ls (v, slot.Cell (length h.cells)) (locals_later (ids_of h) (ids_of (with_cell (paid cell_bytes h) a)) (cell_later (paid cell_bytes h) a) ls q) (omega (arith, length-append h.cells (a ∷ [])));
}

one_declared : (captured : Bool) (v : ℕ) (a : Value) (h : HeapOf) (ls : Locals) → IsOf (ids_of h) a → All (IsOwnLocal (ids_of h)) ls → IsOwnDeclared (ids_of h) (declared_by captured v a h ls)
one_declared true v a h ls p q = shared_own (is_over cell_bytes h.used) v a h ls p q
one_declared false v a h ls p q = record { later = same_later (ids_of h); locals = All-push (IsOwnLocal (ids_of h)) ls (v, slot.Held a) q p }

module _ (code : Code) where
  pub declared_own : (v : ℕ) (a : Value) (h : HeapOf) (ls : Locals) → IsOf (ids_of h) a → All (IsOwnLocal (ids_of h)) ls → IsOwnDeclared (ids_of h) (declared code v a h ls)
  declared_own v a h ls p q = one_declared (code.is_captured v) v a h ls p q

  then_own : (ids : Ids) (d : Declared) (further : HeapOf → Locals → Declared) (t : Bool) → IsOwnDeclared ids d → IsOwnDeclared (ids_of d.heap) (further d.heap d.locals) → IsOwnDeclared ids (declared_if code t d further)
  then_own ids d further true p q = record { later = later_on ids (ids_of d.heap) (ids_of (further d.heap d.locals).heap) p.later q.later; locals = q.locals }
  then_own ids d further false p q = p

  pub all_declared_own : (n v : ℕ) (xs : List Value) (h : HeapOf) (ls : Locals) → AreOf (ids_of h) xs → All (IsOwnLocal (ids_of h)) ls → IsOwnDeclared (ids_of h) (declared_all code v n xs h ls)
  all_declared_own zero v xs h ls p q = record { later = same_later (ids_of h); locals = q }
  all_declared_own (suc n) v xs h ls p q =
      let d : Declared = declared code v (first xs) h ls in
      let one : IsOwnDeclared (ids_of h) d = declared_own v (first xs) h ls (first_own (ids_of h) xs p) q in
      then_own (ids_of h) d (λ h ls. declared_all code (v + 1) n (drop 1 xs) h ls) d.done one
      (all_declared_own n (v + 1) (drop 1 xs) d.heap d.locals (values_later (ids_of h) (ids_of d.heap) one.later (drop 1 xs) (drop_own (ids_of h) 1 xs p)) one.locals)

-- a value that is put, or how that ended
abbrev pub IsOwnPut : Ids → Option Mode × HeapOf → Type 0
IsOwnPut ids p = AreLater ids (ids_of p.1) × ((b : Mode) → IsOwnMode (ids_of p.1) b → IsOwnMode (ids_of p.1) (or_else p.0 b))

failed_own : (lines text : List ℕ) (h : HeapOf) → IsOwnPut (ids_of h) (failed_put (op_fails lines text h))
failed_own lines text h = by (is_over (text_bytes (error_text lines text)) h.used)
  where
    by : (t : Bool) → IsOwnPut (ids_of h) (failed_put (if t then (Stopped stop.Memory, h) else (Raise (value.Text (error_text lines text)), record h { used = charged (text_bytes (error_text lines text)) h.used })))
    by true = (same_later (ids_of h), λ b own. tt)
    by false = (same_later (ids_of h), λ b own. tt)

new_key_own : (over : Bool) (t : ℕ) (key v : Value) (h : HeapOf) → IsOwnPut (ids_of h) (new_key_by over t key v h)
new_key_own true t key v h = (same_later (ids_of h), λ b own. tt)
new_key_own false t key v h = (entry_later (paid key_bytes h) t key v, λ b own. own)

put_by_own : (there nothing : Bool) (t : ℕ) (key v : Value) (h : HeapOf) → IsOwnPut (ids_of h) (put_by there nothing t key v h)
put_by_own true nothing t key v h = (entry_later h t key v, λ b own. own)
put_by_own false true t key v h = (same_later (ids_of h), λ b own. own)
put_by_own false false t key v h = new_key_own (is_over key_bytes h.used) t key v h

pub put_own : (lines : List ℕ) (t : ℕ) (key v : Value) (h : HeapOf) → IsOwnPut (ids_of h) (put_in lines t key v h)
put_own lines t value.Nil v h = failed_own lines (codes "table index is nil") h
put_own lines t key v h = put_by_own (was_put (table_at h t).pairs key) (is_nil v) t key v h

put_then_own : (ids : Ids) (p : Option Mode × HeapOf) (n : ℕ) (further : HeapOf → PutAll) → IsOwnPut ids p → ((h : HeapOf) → IsOwnPut (ids_of h) ((further h).fault, (further h).heap)) → IsOwnPut ids ((put_then p n further).fault, (put_then p n further).heap)
put_then_own ids (None, h) n further own rest = (later_on ids (ids_of h) (ids_of (further h).heap) own.0 (rest h).0, (rest h).1)
put_then_own ids (Some b, h) n further own rest = own

pub puts_own : (lines : List ℕ) (vs : List Value) (t n : ℕ) (h : HeapOf) → IsOwnPut (ids_of h) ((put_all lines t n vs h).fault, (put_all lines t n vs h).heap)
puts_own lines [] t n h = (same_later (ids_of h), λ b own. own)
puts_own lines (v ∷ vs) t n h = put_then_own (ids_of h) (put_in lines t (value.Int (pos n)) v h) n (λ h. put_all lines t (n + 1) vs h) (put_own lines t (value.Int (pos n)) v h) (λ k. puts_own lines vs t (n + 1) k)

module _ (before : Ids) where
  -- what a configuration has is of its heap
  abbrev pub IsHeld : Configuration → Type 0
  IsHeld x = AreLater before (ids_of x.heap) × AreOfHeap (ids_of x.heap) x.call x.frames

  pub nexts : (b : Mode) (x : Configuration) → IsHeld x → IsOwnMode (ids_of x.heap) b → IsOwnNext before (b, x)
  nexts b x held own = (held.0, own, held.1)

  pub frame_more : (ids : Ids) (call : CallOf) (fs : List Frame) (f : Frame) → AreOfHeap ids call fs → IsOwnFrame ids f → AreOfHeap ids call (f ∷ fs)
  frame_more ids call fs f own more = record { call = own.call; frames = All-cons (IsOwnFrame ids) f fs more own.frames }

  -- another heap that has no fewer numbers
  pub held_on : (x : Configuration) (h : HeapOf) → AreLater (ids_of x.heap) (ids_of h) → IsHeld x → IsHeld (with_heap h x)
  held_on x h later held = (later_on before (ids_of x.heap) (ids_of h) held.0 later, record { call = call_later (ids_of x.heap) (ids_of h) later x.call held.1.call; frames = frames_later (ids_of x.heap) (ids_of h) later x.frames held.1.frames })

  pub ticks_own : (k : Configuration → Next) (x : Configuration) → IsHeld x → IsOwnNext before (k (with_tick x)) → IsOwnNext before (ticking k x)
  ticks_own k x held own = by (is_spent x.heap.used)
    where
      by : (t : Bool) → IsOwnNext before (tick_by t k x)
      by true = (held.0, tt, held.1)
      by false = own

  pub failing_own : (lines text : List ℕ) (x : Configuration) → IsHeld x → IsOwnNext before (failing lines text x)
  failing_own lines text x held = by (is_over (text_bytes (error_text lines text)) x.heap.used)
    where
      by : (t : Bool) → IsOwnNext before (ended_with (if t then (Stopped stop.Memory, x.heap) else (Raise (value.Text (error_text lines text)), record x.heap { used = charged (text_bytes (error_text lines text)) x.heap.used })) x)
      by true = (held.0, tt, held.1)
      by false = (held.0, tt, held.1)

  pub few_own : (lines : List ℕ) (vs : List Value) (b : Mode) (x : Configuration) → IsHeld x → IsOwnMode (ids_of x.heap) b → IsOwnNext before (if_few lines vs b x)
  few_own lines vs b x held own = by (nat_lt 250 (length vs))
    where
      by : (t : Bool) → IsOwnNext before (few_by t lines b x)
      by true = failing_own lines (codes "too many values") x held
      by false = (held.0, own, held.1)

  pub declares_own : (d : Declared) (k : Configuration → Next) (x : Configuration) → IsHeld x → IsOwnDeclared (ids_of x.heap) d → (IsHeld (declared_in d x) → IsOwnNext before (k (declared_in d x))) → IsOwnNext before (declaring d k x)
  declares_own d k x held own next = by d.done
    where
      there : IsHeld (declared_in d x)
      there = (later_on before (ids_of x.heap) (ids_of d.heap) held.0 own.later, record { call = record { locals = own.locals; varargs = values_later (ids_of x.heap) (ids_of d.heap) own.later x.call.varargs held.1.call.varargs }; frames = frames_later (ids_of x.heap) (ids_of d.heap) own.later x.frames held.1.frames })

      by : (t : Bool) → IsOwnNext before (if t then k (declared_in d x) else (mode.Stopped stop.Memory, declared_in d x))
      by true = next there
      by false = (there.0, tt, there.1)

  pub putting_own : (p : Option Mode × HeapOf) (b : Mode) (x : Configuration) → IsHeld x → IsOwnPut (ids_of x.heap) p → (AreLater (ids_of x.heap) (ids_of p.1) → IsOwnMode (ids_of p.1) b) → IsOwnNext before (putting p b x)
  putting_own p b x held own next = (let there = held_on x p.1 own.0 held in (there.0, own.1 b (next own.0), there.1))

  -- what becomes of a frame
  pub taken_own : (g : Given) (x : Configuration) → IsHeld x → IsOwnGiven (ids_of x.heap) g → IsOwnNext before (taken_up g x)
  taken_own (given.Goes b) x held own = (held.0, own, held.1)
  taken_own (given.Enters f b) x held own = (held.0, own.1, frame_more (ids_of x.heap) x.call x.frames f held.1 own.0)
  taken_own (given.Cuts n b) x held own = (held.0, own, record { call = record { locals = All-take (IsOwnLocal (ids_of x.heap)) n x.call.locals held.1.call.locals; varargs = held.1.call.varargs }; frames = held.1.frames })
  taken_own (given.Returns call b) x held own = (held.0, own.1, record { call = own.0; frames = held.1.frames })
  taken_own (given.Lands n f) x held own = (held.0, none_own (ids_of x.heap), record { call = record { locals = All-take (IsOwnLocal (ids_of x.heap)) n x.call.locals held.1.call.locals; varargs = held.1.call.varargs }; frames = All-cons (IsOwnFrame (ids_of x.heap)) f x.frames own held.1.frames })
