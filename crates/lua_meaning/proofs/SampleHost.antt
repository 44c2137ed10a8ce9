-- A host with a few functions, for the worked examples. Its state is the list of snapshots that were made.
use Rattle.std.specs.Prelude.{ℕ, zero, suc, pos, Bool, true, false, List, [], ◌∷◌, ◌++◌, length, take, slice_get, bytes_eq, codes, decimal, Option, Some, None}
use Rattle.std.specs.List.{list_any}
use Rattle.std.specs.Fmt.{signed_decimal}
use Rattle.zc_budget.specs.Used.{Used, is_spent, ticked, is_over, charged}
use Rattle.zc_budget.specs.declared.budget.Stop.{Stop}
use Rattle.zc_budget.specs.declared.budget.Stop.TheVariants as stop
use Rattle.lua_ast.specs.Tree.{Tree}
use Rattle.lua_meaning.specs.declared.builtin.Builtin.{Builtin as BuiltinOf}
use Rattle.lua_meaning.specs.declared.builtin.Builtin.TheVariants as builtin
use Rattle.lua_meaning.specs.declared.iter.IterState.{IterState}
use Rattle.lua_meaning.specs.declared.iter.IterState.TheVariants as iter
use Rattle.lua_meaning.specs.declared.value.Value.{Value}
use Rattle.lua_meaning.specs.declared.value.Value.TheVariants as value
use Rattle.lua_meaning.specs.declared.status.CoStatus.TheVariants as status
use Rattle.lua_meaning.specs.declared.status.After.TheVariants.{FirstThree, OneText}
use Rattle.lua_meaning.specs.Tables.{Pairs, pairs_behind, skipped, next_pair}
use Rattle.lua_meaning.specs.Heap.{TableOf, table_at, metamethod, with_meta, with_thread, with_iter, text_bytes, thread_bytes, iter_bytes}
use Rattle.lua_meaning.specs.Store.{State, Store, store, none, Result, Go, Halt, Raises, Stops}
use Rattle.lua_meaning.specs.Runs.{error_text}
use Rattle.lua_meaning.specs.Jobs.{Answer, Values, Raise, Stopped, CallThen, Resume, Yield, HostOf}
use Rattle.lua_meaning.specs.Programs.{program}
use Rattle.lua_meaning.proofs.Writing.{Written, code_of}

abbrev pub Made : Type 0
Made = List (List ℕ)

abbrev pub Answered : Type 0
Answered = Answer × State Made

abbrev with_used : Used → State Made → State Made
with_used u w = record w { heap = record w.heap { used = u } }

abbrev charge : ℕ → (State Made → Answered) → State Made → Answered
charge n k w = elim (is_over n w.heap.used) [ true ↦ (Stopped stop.Memory, w) | false ↦ k (with_used (charged n w.heap.used) w) ]

abbrev ticks : ℕ → (State Made → Answered) → State Made → Answered
ticks zero k w = k w
ticks (suc n) k w = elim (is_spent w.heap.used) [ true ↦ (Stopped stop.Instructions, w) | false ↦ ticks n k (with_used (ticked w.heap.used) w) ]

abbrev gives : List Value → State Made → Answered
gives vs w = (Values vs, w)

abbrev raises : List ℕ → List ℕ → State Made → Answered
raises lines text w = charge (text_bytes (error_text lines text)) (λ w. (Raise (value.Text (error_text lines text)), w)) w

abbrev pub int : ℕ → Value
int n = value.Int (pos n)

abbrev pair_values : Option (Value × Value) → List Value
pair_values None = value.Nil ∷ []
pair_values (Some p) = p.0 ∷ p.1 ∷ []

abbrev next_of : Option Pairs → List ℕ → State Made → Answered
next_of None lines w = raises lines (codes "invalid key to next") w
next_of (Some ps) lines w = ticks (skipped ps) (gives (pair_values (next_pair ps))) w

abbrev pairs_by : Value → Value → State Made → Answered
pairs_by value.Nil t w = gives (value.Builtin builtin.Next ∷ t ∷ value.Nil ∷ []) w
pairs_by f t w = (CallThen f (t ∷ []) FirstThree, w)

abbrev text_of : Value → List ℕ
text_of (value.Int z) = signed_decimal z
text_of (value.Table t) = codes "table: " ++ decimal t
text_of _ = codes "?"

abbrev to_string : Value → Value → State Made → Answered
to_string value.Nil (value.Text s) w = gives (value.Text s ∷ []) w
to_string value.Nil v w = charge (text_bytes (text_of v)) (gives (value.Text (text_of v) ∷ [])) w
to_string f v w = (CallThen f (v ∷ []) OneText, w)

abbrev new_thread : Value → (ℕ → State Made → Answered) → State Made → Answered
new_thread f k w = charge thread_bytes (λ w. k (length w.threads) (record w { heap = with_thread w.heap; threads = w.threads ++ record { function = f; status = status.Suspended } ∷ [] })) w

abbrev new_wrap : ℕ → State Made → Answered
new_wrap c w = charge iter_bytes (λ w. gives (value.Iter (length w.heap.iters) ∷ []) (record w { heap = with_iter w.heap (iter.Wrap c) })) w

abbrev exists : List ℕ → Bool → List ℕ → State Made → Answered
exists s true lines w = gives (value.Bool (list_any (bytes_eq s) w.host) ∷ []) w
exists s false lines w = raises lines (codes "dataset '" ++ s ++ codes "' is not in pool 'rpool'") w

abbrev call : BuiltinOf → List Value → List ℕ → State Made → Answered
call builtin.Error (value.Text s ∷ vs) lines w = raises lines s w
call builtin.Error (v ∷ vs) lines w = (Raise v, w)
call builtin.SetMetatable (value.Table t ∷ value.Table m ∷ vs) lines w = gives (value.Table t ∷ []) (record w { heap = with_meta w.heap t (Some m) })
call builtin.Pairs (value.Table t ∷ vs) lines w = pairs_by (metamethod w.heap (value.Table t) (codes "__pairs")) (value.Table t) w
call builtin.Next (value.Table t ∷ []) lines w = next_of (pairs_behind (table_at w.heap t).pairs value.Nil) lines w
call builtin.Next (value.Table t ∷ k ∷ vs) lines w = next_of (pairs_behind (table_at w.heap t).pairs k) lines w
call builtin.CoroutineCreate (f ∷ vs) lines w = new_thread f (λ c. gives (value.Thread c ∷ [])) w
call builtin.CoroutineWrap (f ∷ vs) lines w = new_thread f new_wrap w
call builtin.CoroutineResume (value.Thread c ∷ vs) lines w = (Resume c vs false, w)
call builtin.CoroutineYield vs lines w = (Yield vs, w)
call builtin.ToString (v ∷ vs) lines w = to_string (metamethod w.heap v (codes "__tostring")) v w
call builtin.ZfsExists (value.Text s ∷ []) lines w = exists s (bytes_eq (take 5 s) (codes "rpool")) lines w
call builtin.ZfsSyncSnapshot (value.Text s ∷ []) lines w = gives (int 0 ∷ []) (record w { host = w.host ++ s ∷ [] })
call b vs lines w = raises lines (codes "bad argument") w

abbrev step_by : Option IterState → List Value → List ℕ → State Made → Answered
step_by (Some (iter.Wrap c)) vs lines w = (Resume c vs true, w)
step_by _ vs lines w = gives (value.Nil ∷ []) w

abbrev pub sample_host : HostOf Made
sample_host = record { call = call; step = λ i vs lines w. step_by (slice_get w.heap.iters i) vs lines w }

abbrev table : List (Value × Value) → TableOf
table ps = record { pairs = ps; meta = None }

abbrev field : List ℕ → Value → Value × Value
field name v = (value.Text name, v)

-- the tables that a program starts with
abbrev pub tables : List TableOf
tables =
    table (field (codes "error") (value.Builtin builtin.Error) ∷ field (codes "setmetatable") (value.Builtin builtin.SetMetatable) ∷ field (codes "pairs") (value.Builtin builtin.Pairs) ∷ field (codes "next") (value.Builtin builtin.Next) ∷ field (codes "tostring") (value.Builtin builtin.ToString) ∷ field (codes "coroutine") (value.Table 1) ∷ field (codes "string") (value.Table 2) ∷ field (codes "table") (value.Table 3) ∷ field (codes "zfs") (value.Table 4) ∷ [])
    ∷ table (field (codes "create") (value.Builtin builtin.CoroutineCreate) ∷ field (codes "wrap") (value.Builtin builtin.CoroutineWrap) ∷ field (codes "resume") (value.Builtin builtin.CoroutineResume) ∷ field (codes "yield") (value.Builtin builtin.CoroutineYield) ∷ [])
    ∷ table [] ∷ table []
    ∷ table (field (codes "exists") (value.Builtin builtin.ZfsExists) ∷ field (codes "list") (value.Table 5) ∷ field (codes "sync") (value.Table 7) ∷ field (codes "check") (value.Table 6) ∷ [])
    ∷ table [] ∷ table []
    ∷ table (field (codes "snapshot") (value.Builtin builtin.ZfsSyncSnapshot) ∷ [])
    -- the arguments
    ∷ table [] ∷ []

abbrev pub start : (instructions bytes : ℕ) → Store Made
start instructions bytes = store
    (record {
      heap = record { tables = tables; cells = []; closures = []; iters = []; threads = 0; used = record { instructions = 0; bytes = 64; most_instructions = instructions; most_bytes = bytes } };
      threads = record { function = value.Nil; status = status.Running } ∷ [];
      running = 0;
      host = [];
    }) 0 (record { locals = []; varargs = []; lines = []; across = false }) none

-- what is seen of a run: what it answers, the instructions and bytes that it used, and the state of the host
pub data Seen : Type 0 where
  Answers : List Value → (instructions bytes : ℕ) → Made → Seen
  Fails : List ℕ → (instructions bytes : ℕ) → Made → Seen
  Ends : Stop → (instructions bytes : ℕ) → Made → Seen
  Other : Seen

abbrev pub seen : Result Made → Seen
seen (Go vs (store w b call rs) r) = Answers vs w.heap.used.instructions w.heap.used.bytes w.host
seen (Halt (Raises (value.Text t)) (store w b call rs) r) = Fails t w.heap.used.instructions w.heap.used.bytes w.host
seen (Halt (Stops st) (store w b call rs) r) = Ends st w.heap.used.instructions w.heap.used.bytes w.host
seen _ = Other

-- a program whose text has these functions and captured variables, under these limits
abbrev pub run : List Written → List ℕ → Tree → (instructions bytes : ℕ) → Seen
run functions captured root instructions bytes =
    seen (program sample_host (code_of functions captured) root (value.Table 8 ∷ []) (start instructions bytes))
