-- What each call of the pool takes of a program.
use Rattle.std.specs.Prelude.{◌≡◌, ℕ, ◌+◌, ◌≤◌, Bool, true, false, cond, List, [], ◌∷◌, refl, codes}
use Rattle.std.proofs.Math.Nat.{le_refl, le-add_right}
use Rattle.std.proofs.lemmas.Bool.{ltb-false}
use Rattle.zc_budget.specs.Used.{IsWithin, is_over, charged}
use Rattle.zc_budget.specs.declared.budget.Stop.TheVariants as stop
use Rattle.lua_meaning.specs.declared.value.Value.{Value}
use Rattle.lua_meaning.specs.declared.value.Value.TheVariants as value
use Rattle.lua_meaning.specs.Heap.{HeapOf, text_bytes}
use Rattle.lua_meaning.specs.Operators as op
use Rattle.lua_meaning.specs.Runs.{error_text}
use Rattle.lua_meaning.specs.Jobs.{Answer, Stopped}
use Rattle.zp_names.specs.ErrorNumbers.{einval}
use Rattle.zp_tree.specs.Tree.{Tree, exists}
use Rattle.zp_tree.specs.Commands.{check_of}
use Rattle.zcp_calls.specs.declared.naming.Named.{Named}
use Rattle.zcp_calls.specs.declared.naming.Named.TheVariants as named
use Rattle.zcp_calls.specs.declared.syncing.SyncCall.{SyncCall}
use Rattle.zcp_calls.specs.declared.syncing.Asked.{Asked}
use Rattle.zcp_calls.specs.declared.syncing.Asked.TheVariants as asked
use Rattle.zcp_calls.specs.Answering.{failure, gives, gives_number, raises, other_pool_text, no_name_text, bad_arguments_text}
use Rattle.zcp_calls.specs.Naming.{pool_name, one_name}
use Rattle.zcp_calls.specs.Existing.{exists_by, exists_call}
use Rattle.zcp_calls.specs.Syncing.{sync_name, sync_command, sync_by, sync_call}
use Rattle.zcp_calls.specs.Paying.{Pays, IsCallEnd, CallEnds}

-- the heap stays
here : (h : HeapOf) (a : Answer) → IsCallEnd a → CallEnds h a h
here h a e = record { pays = record { others = refl; more = le_refl h.used.bytes; within = λ within. within.bytes }; ends = e }

failing : (b : Bool) (x y : op.OpAnswer × HeapOf) (h : HeapOf) →
    CallEnds h (failure x.0) x.1 → (b ≡ false → CallEnds h (failure y.0) y.1) →
    CallEnds h (failure (cond b x y).0) (cond b x y).1
failing true x y h over within = over
failing false x y h over within = within refl

pub raises_ends : (lines text : List ℕ) (h : HeapOf) → CallEnds h (raises lines text h).0 (raises lines text h).1
raises_ends lines text h =
    let n = text_bytes (error_text lines text) in
    failing (is_over n h.used) (op.Stopped stop.Memory, h) (op.Raise (value.Text (error_text lines text)), record h { used = charged n h.used }) h
    (here h (Stopped stop.Memory) tt)
    (λ e. record {
      pays = record { others = refl; more = le-add_right h.used.bytes n; within = λ within. ltb-false h.used.most_bytes (h.used.bytes + n) e };
      ends = tt;
    })

sync_by_ends : (a : Asked) (which : SyncCall) (lines : List ℕ) (txg now : ℕ) (h : HeapOf) (t : Tree) →
    CallEnds h (sync_by a which lines txg now h t).0 (sync_by a which lines txg now h t).1
sync_by_ends (asked.Does c) which lines txg now h t = here h (gives_number (check_of t c).errno h).0 tt
sync_by_ends (asked.Elsewhere name) which lines txg now h t = raises_ends lines (other_pool_text name (pool_name t)) h
sync_by_ends asked.NoName which lines txg now h t = here h (gives_number einval h).0 tt
sync_by_ends asked.Wrong which lines txg now h t = raises_ends lines (bad_arguments_text (sync_name which)) h

pub sync_ends : (which : SyncCall) (args : List Value) (lines : List ℕ) (txg now : ℕ) (h : HeapOf) (t : Tree) →
    CallEnds h (sync_call which args lines txg now h t).0 (sync_call which args lines txg now h t).1
sync_ends which args lines txg now h t = sync_by_ends (sync_command which (pool_name t) args) which lines txg now h t

exists_by_ends : (n : Named) (lines : List ℕ) (t : Tree) (h : HeapOf) → CallEnds h (exists_by n lines t h).0 (exists_by n lines t h).1
exists_by_ends (named.Here name) lines t h = here h (gives (value.Bool (exists t name) ∷ []) h).0 tt
exists_by_ends (named.Elsewhere name) lines t h = raises_ends lines (other_pool_text name (pool_name t)) h
exists_by_ends (named.NoName text) lines t h = raises_ends lines (no_name_text text) h
exists_by_ends named.Wrong lines t h = raises_ends lines (bad_arguments_text (codes "zfs.exists")) h

pub exists_ends : (args : List Value) (lines : List ℕ) (t : Tree) (h : HeapOf) → CallEnds h (exists_call args lines t h).0 (exists_call args lines t h).1
exists_ends args lines t h = exists_by_ends (one_name (pool_name t) args) lines t h
