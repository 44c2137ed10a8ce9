-- Calls that only add to the heap.
use Rattle.std.proofs.Common.{◌≡◌, ℕ, zero, suc, ◌+◌, ◌<◌, ◌≤◌, Bool, true, false, refl, sym, ◌∙◌, ap, ◌==◌, ◌≢◌, nat_lt, if◌then◌else◌, List, Option, Some, None, arith}
use Rattle.std.proofs.Math.Nat.{le_refl, le_trans}
use Rattle.std.proofs.lemmas.Bool.{eqb-false, ltb-false}
use Rattle.zc_budget.specs.Used.{Used, IsWithin, is_spent, ticked, is_over, charged}
use Rattle.lua_meaning.specs.declared.builtin.Builtin.{Builtin as BuiltinOf}
use Rattle.lua_meaning.specs.declared.value.Value.{Value}
use Rattle.lua_meaning.specs.Heap.{HeapOf, text_bytes}
use Rattle.lua_meaning.specs.Runs.{error_text}
use Rattle.lua_meaning.specs.Jobs.{Answer, Stopped}
use Rattle.zc_budget.specs.declared.budget.Stop.TheVariants as stop
use Rattle.lua_meaning.specs.declared.value.Value.TheVariants as value
use Rattle.lua_meaning.specs.Operators as op
use Rattle.lua_values.specs.Ids.{Ids, ids_of, AreLater}
use Rattle.lua_arguments.specs.Answering.{Calling, plain_answer, by_operator, raises_text, gives_text, raises_at}
use Rattle.lua_arguments.specs.Spending.{charges, ticks}
use Rattle.lua_arguments.specs.BadArguments.{bad_argument, bad_argument_text, with_argument}
use Rattle.lua_arguments.specs.Extending.{Extends, RunsNoCoroutine, Adds, OnlyAdds}

pub later_here : (i : Ids) → AreLater i i
later_here i = record { tables = le_refl i.tables; cells = le_refl i.cells; closures = le_refl i.closures; iters = le_refl i.iters; threads = le_refl i.threads }

pub extends_here : (h : HeapOf) → Extends h h
extends_here h = record { most_instructions = refl; most_bytes = refl; instructions = le_refl h.used.instructions; bytes = le_refl h.used.bytes; within = λ within. within; closures = refl; threads = refl; ids = later_here (ids_of h) }

later_on : {i j k : Ids} → AreLater i j → AreLater j k → AreLater i k
later_on a b = record { tables = le_trans a.tables b.tables; cells = le_trans a.cells b.cells; closures = le_trans a.closures b.closures; iters = le_trans a.iters b.iters; threads = le_trans a.threads b.threads }

pub extends_on : (h k m : HeapOf) → Extends h k → Extends k m → Extends h m
extends_on h k m a b = record {
  most_instructions = b.most_instructions ∙ a.most_instructions;
  most_bytes = b.most_bytes ∙ a.most_bytes;
  instructions = le_trans a.instructions b.instructions;
  bytes = le_trans a.bytes b.bytes;
  within = λ within. b.within (a.within within);
  closures = b.closures ∙ a.closures;
  threads = b.threads ∙ a.threads;
  ids = later_on a.ids b.ids;
}

-- what is paid for
extends_charged : (n : ℕ) (h : HeapOf) → is_over n h.used ≡ false → Extends h (record h { used = charged n h.used })
extends_charged n h room = record {
  most_instructions = refl;
  most_bytes = refl;
  instructions = le_refl h.used.instructions;
  bytes = omega arith;
  within = λ within. record { instructions = within.instructions; bytes = fits (h.used.most_bytes) (h.used.bytes + n) room };
  closures = refl;
  threads = refl;
  ids = later_here (ids_of h);
}
  where
    fits : (most bytes : ℕ) → nat_lt most bytes ≡ false → bytes ≤ most
    fits most bytes e = ltb-false most bytes e

extends_ticked : (h : HeapOf) → is_spent h.used ≡ false → Extends h (record h { used = ticked h.used })
extends_ticked h left = record {
  most_instructions = refl;
  most_bytes = refl;
  instructions = omega arith;
  bytes = le_refl h.used.bytes;
  within = λ within. record { instructions = below h.used.instructions h.used.most_instructions left within.instructions; bytes = within.bytes };
  closures = refl;
  threads = refl;
  ids = later_here (ids_of h);
}
  where
    below : (n most : ℕ) → (n == most) ≡ false → n ≤ most → n + 1 ≤ most
    below n most e within = let apart : n ≢ most = eqb-false n most e in omega (arith, apart, within)

-- values, an error, or a function that is to be called
pub answers_add : (a : Answer) → RunsNoCoroutine a → (h : HeapOf) → Adds h (a, h)
answers_add a plain h = record { extends = extends_here h; plain = plain }

-- what comes after something that only adds
pub adds_on : (h k : HeapOf) (a : Answer × HeapOf) → Extends h k → Adds k a → Adds h a
adds_on h k a first then_ = record { extends = extends_on h k a.1 first then_.extends; plain = then_.plain }

pub charges_add : (n : ℕ) (next : Calling) → OnlyAdds next → OnlyAdds (charges n next)
charges_add n next adds h = by (is_over n h.used) refl
  where
    by : (b : Bool) → is_over n h.used ≡ b → Adds h (if b then (Stopped stop.Memory, h) else next (record h { used = charged n h.used }))
    by true e = answers_add (Stopped stop.Memory) tt h
    by false e = adds_on h (record h { used = charged n h.used }) (next (record h { used = charged n h.used })) (extends_charged n h e) (adds (record h { used = charged n h.used }))

pub ticks_add : (n : ℕ) (next : Calling) → OnlyAdds next → OnlyAdds (ticks n next)
ticks_add zero next adds h = adds h
ticks_add (suc n) next adds h = by (ticks_add n next adds (record h { used = ticked h.used })) (is_spent h.used) refl
  where
    by : Adds (record h { used = ticked h.used }) (ticks n next (record h { used = ticked h.used })) → (b : Bool) → is_spent h.used ≡ b → Adds h (if b then (Stopped stop.Instructions, h) else ticks n next (record h { used = ticked h.used }))
    by more true e = answers_add (Stopped stop.Instructions) tt h
    by more false e = adds_on h (record h { used = ticked h.used }) (ticks n next (record h { used = ticked h.used })) (extends_ticked h e) more

-- an operator that pays and then is done
pub paid_adds : (n : ℕ) (a : op.OpAnswer) → RunsNoCoroutine (plain_answer a) → OnlyAdds (by_operator (op.op_charge n (λ h. (a, h))))
paid_adds n a plain h = by (is_over n h.used) refl
  where
    by : (b : Bool) → is_over n h.used ≡ b → Adds h (by_operator (λ h. if b then (op.Stopped stop.Memory, h) else (a, record h { used = charged n h.used })) h)
    by true e = answers_add (Stopped stop.Memory) tt h
    by false e = record { extends = extends_charged n h e; plain = plain }

pub raises_text_adds : (text : List ℕ) → OnlyAdds (raises_text text)
raises_text_adds text = paid_adds (text_bytes text) (op.Raise (value.Text text)) tt

pub gives_text_adds : (text : List ℕ) → OnlyAdds (gives_text text)
gives_text_adds text = paid_adds (text_bytes text) (op.Done (value.Text text)) tt

pub raises_at_adds : (lines text : List ℕ) → OnlyAdds (raises_at lines text)
raises_at_adds lines text = raises_text_adds (error_text lines text)

pub with_argument_adds : {A : Type 0} (number : ℕ) (builtin : BuiltinOf) (lines : List ℕ) (argument : Option A) (next : A → Calling) → ((a : A) → OnlyAdds (next a)) → OnlyAdds (with_argument number builtin lines argument next)
with_argument_adds number builtin lines None next adds = raises_at_adds lines (bad_argument_text number builtin)
with_argument_adds number builtin lines (Some a) next adds = adds a
