-- The meaning of each node, where the meaning of jobs is given (Lua 5.2 manual, 3.3 and 3.4). A node answers a list of values. What a statement answers is not looked at.
-- This project's own: the evaluation of a node is one instruction, its parts and the stores of an assignment go from left to right, and a call in a `return` is a call as any other.
use Rattle.std.specs.Prelude.{ℕ, ◌+◌, ℤ, pos, int_lt, Bool, not, List, [], ◌∷◌, ◌++◌, length, drop, if◌then◌else◌, codes, Option, Some, None}
use Rattle.lua_ast.specs.declared.node.LogicOp.{LogicOp}
use Rattle.lua_ast.specs.declared.node.LogicOp.TheVariants as logic_op
use Rattle.lua_ast.specs.Tree.{Tree, Block, Local, Assign, CallStat, Do, While, Repeat, If, NumFor, GenFor, LocalFunction, Return, Break, Goto, Label, Const, Vararg, Function, Name, Index, Call, Method, Binary, Logic, Unary, Paren, Table, Missing, Trees, none, snoc, Cases, no_case, case, Maybe, absent, present, Fields, no_field, item, named, keyed}
use Rattle.lua_meaning.specs.declared.value.Value.{Value}
use Rattle.lua_meaning.specs.declared.value.Value.TheVariants as value
use Rattle.lua_meaning.specs.declared.variable.Slot.{Slot}
use Rattle.lua_meaning.specs.declared.variable.Slot.TheVariants as slot
use Rattle.lua_meaning.specs.declared.variable.Target.{Target}
use Rattle.lua_meaning.specs.declared.variable.Target.TheVariants as target
use Rattle.lua_meaning.specs.Values.{first, truth, of_literal}
use Rattle.lua_meaning.specs.Numbers.{to_int}
use Rattle.lua_meaning.specs.Heap.{set_cell}
use Rattle.lua_meaning.specs.Store.{Store, Result, Go, Halt, Breaks, Jumps, Returns, call_of, heap_of, with_heap}
use Rattle.lua_meaning.specs.Code.{Code, from_label, locals_before}
use Rattle.lua_meaning.specs.Runs.{Run, go, halt, after, tick, at_line, fails, if_few, new_table, new_closure, put}
use Rattle.lua_meaning.specs.Locals.{locals_of, with_locals, with_held, slot_of, cells_in, local_count, cut, named as value_named, declare, declare_all}
use Rattle.lua_meaning.specs.Jobs.{Again, Apply, Turn, Round, Count, Each, From}
use Rattle.lua_meaning.specs.Operators.{binary, unary}
use Rattle.lua_meaning.specs.Indexing.{look, put_at}

abbrev pub slot_target : ℕ → Option Slot → Target
slot_target v (Some (slot.Cell i)) = target.Cell i
slot_target v _ = target.Local v

-- a numeric loop makes a turn while the value has not passed the limit
abbrev pub makes_turn : (at limit step : ℤ) → Bool
makes_turn at limit step = if int_lt (pos 0) step then not (int_lt limit at) else not (int_lt at limit)

module _ {H : Type 0} where
  abbrev pub name_target : Option ℕ → List ℕ → Store H → Target
  name_target None name s = target.Global name
  name_target (Some v) name s = slot_target v (slot_of (locals_of s) v)

  -- another value in a local that lives in the call
  abbrev pub hold : ℕ → Value → Run H
  hold v x s = go [] (with_locals (with_held (locals_of s) v x) s)

  -- a function with what it captures (3.4.10)
  abbrev pub closure_of : ℕ → Option (List ℕ) → Run H
  closure_of n None = go (value.Nil ∷ [])
  closure_of n (Some cells) = new_closure (record { function = n; cells = cells })

  -- values at n and the numbers behind it
  abbrev pub put_items : List ℕ → ℕ → ℕ → List Value → (ℕ → Run H) → Run H
  put_items lines t n [] k = k n
  put_items lines t n (x ∷ xs) k = put lines t (value.Int (pos n)) x (put_items lines t (n + 1) xs k)

  -- the locals of a block go at its end
  abbrev pub closed : ℕ → Result H → Result H
  closed outer (Go vs s r) = Go [] (cut outer s) r
  closed outer (Halt e s r) = Halt e s r

  -- a break ends the innermost loop
  abbrev pub loop_ends : ℕ → Result H → Result H
  loop_ends outer (Go vs s r) = Go [] s r
  loop_ends outer (Halt Breaks s r) = Go [] (cut outer s) r
  loop_ends outer (Halt e s r) = Halt e s r

  abbrev pub by_truth : Value → Run H → Run H → Run H
  by_truth v this that = if truth v then this else that

  abbrev pub only_first : Run H → Run H
  only_first part s r = after (part s r) (λ vs. go (first vs ∷ []))

  -- `and`, `or` (3.4.4)
  abbrev pub logic : LogicOp → Value → (right : Run H) → Run H
  logic logic_op.And a right = by_truth a (only_first right) (go (a ∷ []))
  logic logic_op.Or a right = by_truth a (go (a ∷ [])) (only_first right)

  abbrev pub named_field : ℕ → List ℕ → (value : Run H) → (line : ℕ) → Run H → Run H
  named_field t name v l k = λ s r. after (v s r) (λ ws s. put (at_line l s) t (value.Text name) (first ws) k s)

  abbrev pub keyed_field : ℕ → (key value : Run H) → (line : ℕ) → Run H → Run H
  keyed_field t key v l k = λ s r. after (key s r) (λ i s r. after (v s r) (λ ws s. put (at_line l s) t (first i) (first ws) k s))

module _ {H : Type 0} (code : Code) (again : Again H) where
  -- A jump to a label of the block, or out of it where it has none of this name (3.3.4). `outer` locals were in scope where the block began.
  abbrev pub jump_to : Option Trees → List ℕ → Trees → ℕ → Run H
  jump_to None x stats outer = halt (Jumps x)
  jump_to (Some part) x stats outer = λ s. again (From stats part outer) (cut (outer + locals_before x stats) s)

  -- the jumps out of statements of a block
  abbrev pub landed : Trees → ℕ → Result H → Result H
  landed stats outer (Go vs s r) = Go [] s r
  landed stats outer (Halt (Jumps x) s r) = jump_to (from_label x stats) x stats outer s r
  landed stats outer (Halt e s r) = Halt e s r

  -- an assignment to one target (3.3.3)
  abbrev pub store_one : Target → Value → List ℕ → Run H
  store_one (target.Local v) x lines = hold v x
  store_one (target.Cell i) x lines = λ s. go [] (with_heap (set_cell (heap_of s) i x) s)
  store_one (target.Global name) x lines = put lines 0 (value.Text name) x (go [])
  store_one (target.Entry o key) x lines = put_at again o key x lines
  store_one target.Nowhere x lines = go []

  -- from left to right
  abbrev pub store_all : List Target → List Value → (line : ℕ) → Run H
  store_all [] xs l = go []
  store_all (t ∷ ts) xs l = λ s r. after (store_one t (first xs) (at_line l s) s r) (λ d. store_all ts (drop 1 xs) l)

  abbrev pub count : ℕ → Tree → (at limit step : ℤ) → Run H
  count v block at limit step = if makes_turn at limit step then tick (again (Count v block at limit step)) else go []

  abbrev pub start_count : ℕ → Tree → Option ℤ → Option ℤ → Option ℤ → List ℕ → Run H
  start_count v block (Some at) (Some limit) (Some step) lines = count v block at limit step
  start_count v block a b c lines = fails lines (codes "for value is not a number")

  -- a call with these arguments (3.4.9)
  abbrev pub call : Value → List Value → List ℕ → Run H
  call f args lines = if_few lines args (again (Apply f args lines lines))

  unfoldable mutual
    pub eval : Tree → Run H
    eval (Block n l stats) = tick (λ s r. closed (local_count s) (landed stats (local_count s) (statements stats (go []) s r)))
    eval (Local n l names exps) = tick (expressions exps (λ vs. declare_all code (code.first_variable n) (length names) vs (go [])))
    eval (Assign n l targets exps) = tick (targets_of targets (λ ts. expressions exps (λ vs. store_all ts vs l)))
    eval (CallStat n l inner) = tick (eval inner)
    eval (Do n l block) = tick (eval block)
    eval (While n l test block) = tick (λ s r. loop_ends (local_count s) (tick (again (Turn test block)) s r))
    eval (Repeat n l block test) = tick (λ s r. loop_ends (local_count s) (tick (again (Round block test)) s r))
    eval (If n l cases otherwise) = tick (choose cases (maybe_eval otherwise))
    eval (NumFor n l name first' limit step block) =
        tick (λ s r. after (eval first' s r) (λ a s r. after (eval limit s r) (λ b s r. after (step_of step s r) (λ c s r.
        loop_ends (local_count s) (start_count (code.first_variable n) block (to_int (first a)) (to_int (first b)) (to_int (first c)) (at_line l s) s r)))))
    eval (GenFor n l names exps block) =
        tick (expressions exps (λ vs s r.
        loop_ends (local_count s) (tick (again (Each (code.first_variable n) (length names) block (first vs) (first (drop 1 vs)) (first (drop 2 vs)) l)) s r)))
    eval (LocalFunction n l name function) =
        tick (declare code (code.first_variable n) value.Nil (λ s r. after (eval function s r) (λ vs s r.
        store_one (slot_target (code.first_variable n) (slot_of (locals_of s) (code.first_variable n))) (first vs) (at_line l s) s r)))
    eval (Return n l exps) = tick (expressions exps (λ vs s. if_few (at_line l s) vs (halt (Returns vs)) s))
    eval (Break n l) = tick (halt Breaks)
    eval (Goto n l label) = tick (halt (Jumps label))
    eval (Label n l label) = tick (go [])
    eval (Const n l value) = tick (go (of_literal value ∷ []))
    eval (Vararg n l) = tick (λ s. go (call_of s).varargs s)
    eval (Function n l params vararg block) = tick (λ s. closure_of n (cells_in (locals_of s) (code.captured n)) s)
    eval (Name n l name) = tick (λ s. go (value_named (code.variable n) name s ∷ []) s)
    eval (Index n l object key) =
        tick (λ s r. after (eval object s r) (λ o s r. after (eval key s r) (λ k s. look again (first o) (first k) (at_line l s) s)))
    eval (Call n l function args) =
        tick (λ s r. after (eval function s r) (λ f. expressions args (λ vs s. call (first f) vs (at_line l s) s)))
    eval (Method n l object name args) =
        tick (λ s r. after (eval object s r) (λ o s r. after (look again (first o) (value.Text name) (at_line l s) s r) (λ f.
        expressions args (λ vs s. call (first f) (first o ∷ vs) (at_line l s) s))))
    eval (Binary n l op left right) =
        tick (λ s r. after (eval left s r) (λ a s r. after (eval right s r) (λ b s. binary again op (first a) (first b) (at_line l s) s)))
    eval (Logic n l op left right) = tick (λ s r. after (eval left s r) (λ a. logic op (first a) (eval right)))
    eval (Unary n l op operand) = tick (λ s r. after (eval operand s r) (λ a s. unary again op (first a) (at_line l s) s))
    eval (Paren n l inner) = tick (λ s r. after (eval inner s r) (λ vs. go (first vs ∷ [])))
    eval (Table n l fields) = tick (new_table (λ t. all_fields fields t l (go (value.Table t ∷ []))))
    eval Missing = go []

    -- the statements of a block, and then `k`
    pub statements : Trees → Run H → Run H
    statements none k = k
    statements (snoc ts t) k = statements ts (λ s r. after (eval t s r) (λ vs. k))

    -- the values of expressions, each but the last giving one
    pub each_first : Trees → (List Value → Run H) → Run H
    each_first none k = k []
    each_first (snoc ts t) k = each_first ts (λ vs s r. after (eval t s r) (λ ws. k (vs ++ first ws ∷ [])))

    pub expressions : Trees → (List Value → Run H) → Run H
    expressions none k = k []
    expressions (snoc ts t) k = each_first ts (λ vs s r. after (eval t s r) (λ ws. k (vs ++ ws)))

    -- what assignments store to: a target counts as a node, with its parts
    pub targets_of : Trees → (List Target → Run H) → Run H
    targets_of none k = k []
    targets_of (snoc ts t) k = targets_of ts (λ ps. target_of t (λ p. k (ps ++ p ∷ [])))

    pub target_of : Tree → (Target → Run H) → Run H
    target_of (Name n l name) k = tick (λ s. k (name_target (code.variable n) name s) s)
    target_of (Index n l object key) k = tick (λ s r. after (eval object s r) (λ o s r. after (eval key s r) (λ i. k (target.Entry (first o) (first i)))))
    target_of _ k = k target.Nowhere

    -- the block of the first test that holds
    pub choose : Cases → Run H → Run H
    choose no_case otherwise = otherwise
    choose (case cs test block) otherwise = choose cs (λ s r. after (eval test s r) (λ vs. by_truth (first vs) (eval block) otherwise))

    pub maybe_eval : Maybe → Run H
    maybe_eval absent = go []
    maybe_eval (present t) = eval t

    pub step_of : Maybe → Run H
    step_of absent = go (value.Int (pos 1) ∷ [])
    step_of (present t) = eval t

    -- fields in turn: `n` is the next whole number
    pub each_field : Fields → ℕ → (line : ℕ) → (ℕ → Run H) → Run H
    each_field no_field t l k = k 1
    each_field (item fs v) t l k = each_field fs t l (λ n s r. after (eval v s r) (λ ws s. put_items (at_line l s) t n (first ws ∷ []) k s))
    each_field (named fs name v) t l k = each_field fs t l (λ n. named_field t name (eval v) l (k n))
    each_field (keyed fs key v) t l k = each_field fs t l (λ n. keyed_field t (eval key) (eval v) l (k n))

    -- the last field may give several values
    pub all_fields : Fields → ℕ → (line : ℕ) → Run H → Run H
    all_fields no_field t l k = k
    all_fields (item fs v) t l k = each_field fs t l (λ n s r. after (eval v s r) (λ ws s. put_items (at_line l s) t n ws (λ m. k) s))
    all_fields (named fs name v) t l k = each_field fs t l (λ n. named_field t name (eval v) l k)
    all_fields (keyed fs key v) t l k = each_field fs t l (λ n. keyed_field t (eval key) (eval v) l k)

  -- the body of a repeat, whose locals its condition sees
  abbrev pub open_body : Tree → Run H
  open_body (Block n l stats) = tick (λ s r. landed stats (local_count s) (statements stats (go []) s r))
  open_body t = eval t
