-- Every step without parts keeps what is to be kept: what comes to be, operators, indexing and stores.
use Rattle.std.proofs.Common.{◌≡◌, ℕ, zero, suc, ◌+◌, List, [], ◌∷◌, ◌++◌, length, drop, Option, Some, None, true, false, Bool, refl}
use Rattle.std.specs.Prelude.{ℤ, if◌then◌else◌, codes, ◌/◌}
use Rattle.zc_budget.specs.Used.{is_spent, ticked, is_over, charged}
use Rattle.zc_budget.specs.declared.budget.Stop.TheVariants as stop
use Rattle.lua_ast.specs.declared.node.BinOp.{BinOp}
use Rattle.lua_ast.specs.declared.node.BinOp.TheVariants as bin
use Rattle.lua_ast.specs.declared.node.UnOp.{UnOp}
use Rattle.lua_ast.specs.declared.node.UnOp.TheVariants as un
use Rattle.lua_meaning.specs.declared.value.Value.{Value}
use Rattle.lua_meaning.specs.declared.value.Value.TheVariants as value
use Rattle.lua_meaning.specs.Values.{first, is_nil, is_function, same, type_name}
use Rattle.lua_meaning.specs.Numbers.{to_int, as_text, Numbers, both, not_both, numbers, Worked, number, refused, work_out}
use Rattle.lua_meaning.specs.Tables.{was_put}
use Rattle.lua_meaning.specs.Heap.{HeapOf, ClosureOf, table_at, with_entry, with_cell, with_table, with_closure, cell_bytes, key_bytes, table_bytes, metamethod, entry, text_bytes}
use Rattle.lua_meaning.specs.declared.variable.Slot.TheVariants as slot
use Rattle.lua_meaning.specs.declared.variable.Target.{Target}
use Rattle.lua_meaning.specs.declared.variable.Target.TheVariants as target
use Rattle.lua_meaning.specs.Store.{store, heap_of, with_heap}
use Rattle.lua_meaning.specs.Code.{Code}
use Rattle.lua_meaning.specs.Runs.{Run, go, put_by, put, new_table, new_closure, error_text, attempt_text}
use Rattle.lua_meaning.specs.Locals.{declare_by, declare_all, with_local}
use Rattle.lua_meaning.specs.Jobs.{Again, Job, Apply, Look, Put}
use Rattle.lua_meaning.specs.Operators.{Op, OpAnswer, Done, Meta, Raise, Stopped, Texts, texts, not_texts, two_texts, either, event, first_without, done, op_fails_on, fails_compare, op_charge, op_ticks, op_fails, by_meta_or, worked, arith as arith_op, concat, negative, less as less_op, less_or_same, equal, common, own_length, len, told, negated_if, binary_op, unary_op, by_meta, answered_op, operate}
use Rattle.lua_meaning.specs.Indexing.{look, look_in, look_by, look_further, string_table, put_at, put_over, put_else, put_further}
use Rattle.lua_meaning.specs.Nodes.{store_one, eval}
use Rattle.lua_ast.specs.Tree.{Tree}
use Rattle.lua_meaning.proofs.Counts.{Plan, Counted, Runs, less_counted, ticked_counted, charged_counted, tick_fed, charge_fed, fails_fed, after_fed}
use Rattle.lua_meaning.proofs.NodeCounts.{Helped, eval_fed}

module _ {H : Type 0} where
  put_by_fed : (l : Plan H) (u : ℕ) (there nothing : Bool) (t : ℕ) (key v : Value) (k : Run H) → Runs l u k → Runs l u (put_by there nothing t key v k)
  put_by_fed l u true nothing t key v k f (store x b c rs) r h = f _ r (record { counts = h.counts; others = h.others })
  put_by_fed l u false true t key v k f s r h = f s r h
  put_by_fed l u false false t key v k f s r h = charge_fed l u key_bytes _ inner s r h
    where
      inner : Runs l u (λ s. k (with_heap (with_entry (heap_of s) t key v) s))
      inner (store x b c rs) r h = f _ r (record { counts = h.counts; others = h.others })

  pub put_fed : (l : Plan H) (u : ℕ) (lines : List ℕ) (t : ℕ) (key v : Value) (k : Run H) → Runs l u k → Runs l u (put lines t key v k)
  put_fed l u lines t value.Nil v k f = fails_fed l u lines _
  put_fed l u lines t key v k f = λ s r h. put_by_fed l u (was_put (table_at (heap_of s) t).pairs key) (is_nil v) t key v k f s r h

  pub declare_by_fed : (l : Plan H) (u : ℕ) (q : Bool) (v : ℕ) (x : Value) (k : Run H) → Runs l u k → Runs l u (declare_by q v x k)
  declare_by_fed l u true v x k f s r h = charge_fed l u cell_bytes _ inner s r h
    where
      inner : Runs l u (λ s. k (with_local v (slot.Cell (length (heap_of s).cells)) (with_heap (with_cell (heap_of s) x) s)))
      inner (store y b c rs) r h = f _ r (record { counts = h.counts; others = h.others })
  declare_by_fed l u false v x k f (store y b c rs) r h = f _ r (record { counts = h.counts; others = h.others })

  pub declare_all_fed : (code : Code) (l : Plan H) (u v n : ℕ) (xs : List Value) (k : Run H) → Runs l u k → Runs l u (declare_all code v n xs k)
  declare_all_fed code l u v zero xs k f = f
  declare_all_fed code l u v (suc n) xs k f = declare_by_fed l u (code.is_captured v) v (first xs) _ (declare_all_fed code l u (v + 1) n (drop 1 xs) k f)

  pub new_table_fed : (l : Plan H) (u : ℕ) (k : ℕ → Run H) → ((t : ℕ) → Runs l u (k t)) → Runs l u (new_table k)
  new_table_fed l u k f = charge_fed l u table_bytes _ inner
    where
      inner : Runs l u (λ s. k (length (heap_of s).tables) (with_heap (with_table (heap_of s)) s))
      inner (store x b c rs) r h = f _ _ r (record { counts = h.counts; others = h.others })

  pub new_closure_fed : (l : Plan H) (u : ℕ) (c : ClosureOf) → Runs l u (new_closure {H = H} c)
  new_closure_fed l u c = charge_fed l u _ _ inner
    where
      inner : Runs {H = H} l u (λ s. go (value.Closure (length (heap_of s).closures) ∷ []) (with_heap (with_closure (heap_of s) c) s))
      inner (store x b d rs) r h = record { counts = h.counts; others = h.others }

-- operators, on the heap
abbrev Kept : {H : Type 0} → Plan H → ℕ → HeapOf → Type 0
Kept l u h = Counted l u h.used

abbrev pub Keeps : {H : Type 0} → Plan H → ℕ → Op → Type 0
Keeps l u op = (h : HeapOf) → Kept l u h → Kept l u (op h).1

module _ {H : Type 0} where
  charges : (l : Plan H) (u n : ℕ) (k : Op) → Keeps l u k → Keeps l u (op_charge n k)
  charges l u n k f h e = by (is_over n h.used) refl
    where
      by : (t : Bool) → is_over n h.used ≡ t → Kept l u (if t then (Stopped stop.Memory, h) else k (record h { used = charged n h.used })).1
      by true q = e
      by false q = f _ (charged_counted l u n h.used q e)

  op_ticks_keep : (l : Plan H) (u n : ℕ) (k : Op) → Keeps l u k → Keeps l u (op_ticks n k)
  op_ticks_keep l u zero k f h e = f h e
  op_ticks_keep l u (suc n) k f h e = by (op_ticks_keep l u n k f) (is_spent h.used) refl
    where
      by : Keeps l u (op_ticks n k) → (t : Bool) → is_spent h.used ≡ t → Kept l u (if t then (Stopped stop.Instructions, h) else op_ticks n k (record h { used = ticked h.used })).1
      by g true q = e
      by g false q = g _ (less_counted l u (ticked h.used) (ticked_counted l u h.used q e))

  op_fails_keeps : (l : Plan H) (u : ℕ) (lines text : List ℕ) → Keeps l u (op_fails lines text)
  op_fails_keeps l u lines text = charges l u (text_bytes (error_text lines text)) (λ h. (Raise (value.Text (error_text lines text)), h)) (λ h e. e)

  by_meta_or_keeps : (l : Plan H) (u : ℕ) (f : Value) (args : List Value) (negated : Bool) (other : Op) → Keeps l u other → Keeps l u (by_meta_or f args negated other)
  by_meta_or_keeps l u value.Nil args negated other f = f
  by_meta_or_keeps l u _ args negated other f = λ h e. e

  worked_keeps : (l : Plan H) (u : ℕ) (w : Worked) (lines : List ℕ) → Keeps l u (worked w lines)
  worked_keeps l u (number z) lines h e = e
  worked_keeps l u (refused text) lines h e = op_fails_keeps l u lines text h e

  arith_keeps : (l : Plan H) (u : ℕ) (op : BinOp) (n : Numbers) (a b : Value) (lines : List ℕ) → Keeps l u (arith_op op n a b lines)
  arith_keeps l u op (both x y) a b lines = worked_keeps l u (work_out op x y) lines
  arith_keeps l u op not_both a b lines = λ h e. by_meta_or_keeps l u (either h (event op) a b) (a ∷ b ∷ []) false (op_fails_on lines (codes "perform arithmetic on") (first_without to_int a b)) (op_fails_keeps l u lines (attempt_text (codes "perform arithmetic on") (first_without to_int a b))) h e

  concat_keeps : (l : Plan H) (u : ℕ) (t : Texts) (a b : Value) (lines : List ℕ) → Keeps l u (concat t a b lines)
  concat_keeps l u (texts x y) a b lines = charges l u (text_bytes (x ++ y)) (op_ticks (length (x ++ y) / 64) (done (value.Text (x ++ y)))) (op_ticks_keep l u (length (x ++ y) / 64) (done (value.Text (x ++ y))) (λ h e. e))
  concat_keeps l u not_texts a b lines = λ h e. by_meta_or_keeps l u (either h (codes "__concat") a b) (a ∷ b ∷ []) false (op_fails_on lines (codes "concatenate") (first_without as_text a b)) (op_fails_keeps l u lines (attempt_text (codes "concatenate") (first_without as_text a b))) h e

  compare_keeps : (l : Plan H) (u : ℕ) (a b : Value) (lines : List ℕ) → Keeps l u (fails_compare a b lines)
  compare_keeps l u a b lines = op_fails_keeps l u lines (codes "attempt to compare " ++ type_name a ++ codes " with " ++ type_name b)

  less_keeps : (l : Plan H) (u : ℕ) (a b : Value) (lines : List ℕ) → Keeps l u (less_op a b lines)
  less_keeps l u (value.Int x) (value.Int y) lines = λ h e. e
  less_keeps l u (value.Text x) (value.Text y) lines = λ h e. e
  less_keeps l u a b lines = λ h e. by_meta_or_keeps l u (either h (codes "__lt") a b) (a ∷ b ∷ []) false (fails_compare a b lines) (compare_keeps l u a b lines) h e

  less_or_same_keeps : (l : Plan H) (u : ℕ) (a b : Value) (lines : List ℕ) → Keeps l u (less_or_same a b lines)
  less_or_same_keeps l u (value.Int x) (value.Int y) lines = λ h e. e
  less_or_same_keeps l u (value.Text x) (value.Text y) lines = λ h e. e
  less_or_same_keeps l u a b lines = λ h e. by_meta_or_keeps l u (either h (codes "__le") a b) (a ∷ b ∷ []) false (by_meta_or (either h (codes "__lt") b a) (b ∷ a ∷ []) true (fails_compare a b lines)) (by_meta_or_keeps l u (either h (codes "__lt") b a) (b ∷ a ∷ []) true (fails_compare a b lines) (compare_keeps l u a b lines)) h e

  equal_keeps : (l : Plan H) (u : ℕ) (a b : Value) → Keeps l u (equal a b)
  equal_keeps l u a b h e = by (same a b)
    where
      by : (t : Bool) → Kept l u (if t then (Done (value.Bool true), h) else by_meta_or (common h a b) (a ∷ b ∷ []) false (done (value.Bool false)) h).1
      by true = e
      by false = by_meta_or_keeps l u (common h a b) (a ∷ b ∷ []) false (done (value.Bool false)) (λ h e. e) h e

  own_length_keeps : (l : Plan H) (u : ℕ) (a : Value) (lines : List ℕ) → Keeps l u (own_length a lines)
  own_length_keeps l u (value.Table t) lines = λ h e. e
  own_length_keeps l u a lines = op_fails_keeps l u lines (attempt_text (codes "get length of") a)

  len_keeps : (l : Plan H) (u : ℕ) (a : Value) (lines : List ℕ) → Keeps l u (len a lines)
  len_keeps l u (value.Text x) lines = λ h e. e
  len_keeps l u a lines = λ h e. by_meta_or_keeps l u (metamethod h a (codes "__len")) (a ∷ []) false (own_length a lines) (own_length_keeps l u a lines) h e

  negative_keeps : (l : Plan H) (u : ℕ) (z : Option ℤ) (a : Value) (lines : List ℕ) → Keeps l u (negative z a lines)
  negative_keeps l u (Some z) a lines = λ h e. e
  negative_keeps l u None a lines = λ h e. by_meta_or_keeps l u (metamethod h a (codes "__unm")) (a ∷ []) false (op_fails_on lines (codes "perform arithmetic on") a) (op_fails_keeps l u lines (attempt_text (codes "perform arithmetic on") a)) h e

  binary_keeps : (l : Plan H) (u : ℕ) (op : BinOp) (a b : Value) (lines : List ℕ) → Keeps l u (binary_op op a b lines)
  binary_keeps l u bin.Concat a b lines = concat_keeps l u (two_texts (as_text a) (as_text b)) a b lines
  binary_keeps l u bin.Eq a b lines = equal_keeps l u a b
  binary_keeps l u bin.Ne a b lines = equal_keeps l u a b
  binary_keeps l u bin.Less a b lines = less_keeps l u a b lines
  binary_keeps l u bin.LessEq a b lines = less_or_same_keeps l u a b lines
  binary_keeps l u bin.Greater a b lines = less_keeps l u b a lines
  binary_keeps l u bin.GreaterEq a b lines = less_or_same_keeps l u b a lines
  binary_keeps l u bin.Add a b lines = arith_keeps l u bin.Add (numbers a b) a b lines
  binary_keeps l u bin.Sub a b lines = arith_keeps l u bin.Sub (numbers a b) a b lines
  binary_keeps l u bin.Mul a b lines = arith_keeps l u bin.Mul (numbers a b) a b lines
  binary_keeps l u bin.Div a b lines = arith_keeps l u bin.Div (numbers a b) a b lines
  binary_keeps l u bin.Mod a b lines = arith_keeps l u bin.Mod (numbers a b) a b lines
  binary_keeps l u bin.Pow a b lines = arith_keeps l u bin.Pow (numbers a b) a b lines

  unary_keeps : (l : Plan H) (u : ℕ) (op : UnOp) (a : Value) (lines : List ℕ) → Keeps l u (unary_op op a lines)
  unary_keeps l u un.Neg a lines = negative_keeps l u (to_int a) a lines
  unary_keeps l u un.Not a lines = λ h e. e
  unary_keeps l u un.Len a lines = len_keeps l u a lines

module _ {H : Type 0} (code : Code) (again : Again H) (l : Plan H) (Enough : ℕ → Type 0) (more : (u : ℕ) → Enough u → Enough (u + 1)) (fed : (u : ℕ) → Enough u → (job : Job) → Runs l (u + 1) (again job)) where
  by_meta_fed : (u : ℕ) → Enough u → (f : Value) (args : List Value) (lines : List ℕ) (made : Value → Value) → Runs l u (by_meta again f args lines made)
  by_meta_fed u e f args lines made = tick_fed l u _ (λ s r h. after_fed l (u + 1) _ _ (fed u e (Apply f args lines lines) s r h) (λ vs s r h. h))

  answered_fed : (u : ℕ) → Enough u → (a : OpAnswer) (lines : List ℕ) (made : Value → Value) → Runs l u (answered_op again a lines made)
  answered_fed u e (Done v) lines made = λ s r h. h
  answered_fed u e (Meta f args negated) lines made = by_meta_fed u e f args lines (λ v. made (negated_if negated v))
  answered_fed u e (Raise v) lines made = λ s r h. h
  answered_fed u e (Stopped st) lines made = λ s r h. h

  operate_fed : (u : ℕ) → Enough u → (op : Op) (lines : List ℕ) (made : Value → Value) → Keeps l u op → Runs l u (operate again op lines made)
  operate_fed u e op lines made f (store x b c rs) r h = answered_fed u e (op x.heap).0 lines made _ r (record { counts = f x.heap h.counts; others = h.others })

  look_further_fed : (u : ℕ) → Enough u → (q : Bool) (f : Value) (t : ℕ) (key : Value) (lines : List ℕ) → Runs l u (look_further again q f t key lines)
  look_further_fed u e true f t key lines = by_meta_fed u e f (value.Table t ∷ key ∷ []) lines (λ v. v)
  look_further_fed u e false o t key lines = tick_fed l u _ (fed u e (Look o key lines))

  look_by_fed : (u : ℕ) → Enough u → (f : Value) (t : ℕ) (key : Value) (lines : List ℕ) → Runs l u (look_by again f t key lines)
  look_by_fed u e value.Nil t key lines = λ s r h. h
  look_by_fed u e f t key lines = look_further_fed u e (is_function f) f t key lines

  look_in_fed : (u : ℕ) → Enough u → (v : Value) (t : ℕ) (key : Value) (lines : List ℕ) → Runs l u (look_in again v t key lines)
  look_in_fed u e value.Nil t key lines = λ s r h. look_by_fed u e (metamethod (heap_of s) (value.Table t) (codes "__index")) t key lines s r h
  look_in_fed u e v t key lines = λ s r h. h

  pub look_fed : (u : ℕ) → Enough u → (o key : Value) (lines : List ℕ) → Runs l u (look again o key lines)
  look_fed u e (value.Table t) key lines = λ s r h. look_in_fed u e (entry (heap_of s) t key) t key lines s r h
  look_fed u e (value.Text x) key lines = λ s r h. look_in_fed u e (entry (heap_of s) string_table key) string_table key lines s r h
  look_fed u e o key lines = fails_fed l u lines _

  put_further_fed : (u : ℕ) → Enough u → (q : Bool) (f : Value) (t : ℕ) (key x : Value) (lines : List ℕ) → Runs l u (put_further again q f t key x lines)
  put_further_fed u e true f t key x lines = tick_fed l u _ (λ s r h. after_fed l (u + 1) _ _ (fed u e (Apply f (value.Table t ∷ key ∷ x ∷ []) lines lines) s r h) (λ vs s r h. h))
  put_further_fed u e false o t key x lines = tick_fed l u _ (fed u e (Put o key x lines))

  put_else_fed : (u : ℕ) → Enough u → (f : Value) (t : ℕ) (key x : Value) (lines : List ℕ) → Runs l u (put_else again f t key x lines)
  put_else_fed u e value.Nil t key x lines = put_fed l u lines t key x (go []) (λ s r h. h)
  put_else_fed u e f t key x lines = put_further_fed u e (is_function f) f t key x lines

  put_over_fed : (u : ℕ) → Enough u → (v : Value) (t : ℕ) (key x : Value) (lines : List ℕ) → Runs l u (put_over again v t key x lines)
  put_over_fed u e value.Nil t key x lines = λ s r h. put_else_fed u e (metamethod (heap_of s) (value.Table t) (codes "__newindex")) t key x lines s r h
  put_over_fed u e v t key x lines = put_fed l u lines t key x (go []) (λ s r h. h)

  pub put_at_fed : (u : ℕ) → Enough u → (o key x : Value) (lines : List ℕ) → Runs l u (put_at again o key x lines)
  put_at_fed u e (value.Table t) key x lines = λ s r h. put_over_fed u e (entry (heap_of s) t key) t key x lines s r h
  put_at_fed u e o key x lines = fails_fed l u lines _

  store_one_fed : (u : ℕ) → Enough u → (t : Target) (x : Value) (lines : List ℕ) → Runs l u (store_one code again t x lines)
  store_one_fed u e (target.Local v) x lines (store y b c rs) r h = record { counts = h.counts; others = h.others }
  store_one_fed u e (target.Cell i) x lines (store y b c rs) r h = record { counts = h.counts; others = h.others }
  store_one_fed u e (target.Global name) x lines s r h = put_fed l u lines 0 (value.Text name) x (go []) (λ s r h. h) s r h
  store_one_fed u e (target.Entry o key) x lines s r h = put_at_fed u e o key x lines s r h
  store_one_fed u e target.Nowhere x lines s r h = h

  pub helped : Helped code again l Enough more fed
  helped = record {
    declares = λ u v c xs k f. declare_all_fed code l u v c xs k f;
    declares_one = λ u v x k f. declare_by_fed l u (code.is_captured v) v x k f;
    stores = store_one_fed;
    looks = look_fed;
    puts = λ u lines t key x k f. put_fed l u lines t key x k f;
    binaries = λ u e op a b lines. operate_fed u e (binary_op op a b lines) lines (told op) (binary_keeps l u op a b lines);
    unaries = λ u e op a lines. operate_fed u e (unary_op op a lines) lines (λ v. v) (unary_keeps l u op a lines);
    closures = λ u c. new_closure_fed l u c;
    tables = λ u k f. new_table_fed l u k f;
  }

  -- every node, where the jobs below have fuel
  pub node_fed : (u : ℕ) → Enough u → (t : Tree) → Runs l u (eval code again t)
  node_fed = eval_fed code again l Enough more fed helped
