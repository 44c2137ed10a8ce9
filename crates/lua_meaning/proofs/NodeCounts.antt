-- Every node keeps what is to be kept, where the jobs do.
use Rattle.std.proofs.Common.{ℕ, ◌+◌, List, [], ◌∷◌, length, drop, Option, Some, None, true, false, Bool}
use Rattle.lua_ast.specs.Tree as syntax
use Rattle.std.specs.Prelude.{ℤ, pos, nat_lt, if◌then◌else◌, codes}
use Rattle.lua_ast.specs.declared.node.BinOp.{BinOp}
use Rattle.lua_ast.specs.declared.node.UnOp.{UnOp}
use Rattle.lua_ast.specs.declared.node.LogicOp.{LogicOp}
use Rattle.lua_ast.specs.declared.node.LogicOp.TheVariants as logic_op
use Rattle.lua_ast.specs.Tree.{Tree, Trees, none, snoc, Cases, Maybe, Fields}
use Rattle.lua_meaning.specs.Numbers.{to_int}
use Rattle.lua_meaning.specs.Heap.{ClosureOf}
use Rattle.lua_meaning.specs.Operators.{binary, unary}
use Rattle.lua_meaning.specs.Indexing.{look}
use Rattle.lua_meaning.specs.declared.value.Value.{Value}
use Rattle.lua_meaning.specs.declared.value.Value.TheVariants as value
use Rattle.lua_meaning.specs.Values.{first, truth}
use Rattle.lua_meaning.specs.Store.{Store, Resumptions, Result, Go, Halt, Breaks, Jumps, Returns, Raises, Stops, Yields, OutOfFuel}
use Rattle.lua_meaning.specs.Code.{Code, from_label}
use Rattle.lua_meaning.specs.Runs.{Run, go, halt, after, tick, fails, if_few, at_line, put, new_closure, new_table}
use Rattle.lua_meaning.specs.Locals.{locals_of, slot_of, cells_in, declare, declare_all}
use Rattle.lua_meaning.specs.Jobs.{Again, Job, Apply, Count, From}
use Rattle.lua_meaning.specs.declared.variable.Target.{Target}
use Rattle.lua_meaning.specs.Nodes.{slot_target, eval, statements, each_first, expressions, targets_of, target_of, choose, maybe_eval, step_of, each_field, all_fields, landed, by_truth, jump_to, call, store_one, store_all, makes_turn, count, start_count, put_items, only_first, logic, closure_of}
use Rattle.lua_meaning.proofs.Counts.{Plan, Ready, Fed, Runs, less, less_fed, after_fed, tick_to, tick_fed, fails_fed, cut_ready, closed_fed, loop_ends_fed}

module _ {H : Type 0} where
  -- each job keeps it where an instruction more was used
  module _ (code : Code) (again : Again H) (l : Plan H) (Enough : ℕ → Type 0) (more : (u : ℕ) → Enough u → Enough (u + 1)) (fed : (u : ℕ) → Enough u → (job : Job) → Runs l (u + 1) (again job)) where
    jump_fed : (u : ℕ) → Enough u → (part : Option Trees) (x : List ℕ) (stats : Trees) (outer : ℕ) (s : Store H) (r : Resumptions H) → Ready l (u + 1) s → Fed l u (jump_to code again part x stats outer s r)
    jump_fed u e None x stats outer s r h = h
    jump_fed u e (Some part) x stats outer s r h = less_fed l u _ (fed u e (From stats part outer) _ r (cut_ready l (u + 1) _ s h))

    pub landed_fed : (u : ℕ) → Enough u → (stats : Trees) (outer : ℕ) (o : Result H) → Fed l u o → Fed l u (landed code again stats outer o)
    landed_fed u e stats outer (Go vs s r) h = h
    landed_fed u e stats outer (Halt (Jumps x) s r) h = jump_fed u e (from_label x stats) x stats outer s r h
    landed_fed u e stats outer (Halt OutOfFuel s r) h = h
    landed_fed u e stats outer (Halt Breaks s r) h = h
    landed_fed u e stats outer (Halt (Returns vs) s r) h = h
    landed_fed u e stats outer (Halt (Raises v) s r) h = h
    landed_fed u e stats outer (Halt (Stops st) s r) h = h
    landed_fed u e stats outer (Halt (Yields vs) s r) h = h

    pub if_few_fed : (u : ℕ) (lines : List ℕ) (vs : List Value) (k : Run H) → Runs l u k → Runs l u (if_few lines vs k)
    if_few_fed u lines vs k f = by (nat_lt 250 (length vs))
      where
        by : (t : Bool) → Runs l u (if t then fails lines (codes "too many values") else k)
        by true = fails_fed l u lines _
        by false = f

    pub by_truth_fed : (u : ℕ) (v : Value) (this that : Run H) → Runs l u this → Runs l u that → Runs l u (by_truth v this that)
    by_truth_fed u v this that f g = by (truth v)
      where
        by : (t : Bool) → Runs l u (if t then this else that)
        by true = f
        by false = g

    only_first_fed : (u : ℕ) (part : Run H) → Runs l u part → Runs l u (only_first part)
    only_first_fed u part f s r h = after_fed l u _ _ (f s r h) (λ vs s r h. h)

    logic_fed : (u : ℕ) (op : LogicOp) (a : Value) (right : Run H) → Runs l u right → Runs l u (logic op a right)
    logic_fed u logic_op.And a right f = by_truth_fed u a _ _ (only_first_fed u right f) (λ s r h. h)
    logic_fed u logic_op.Or a right f = by_truth_fed u a _ _ (λ s r h. h) (only_first_fed u right f)

    -- a call stands after an instruction of its node
    call_fed : (u : ℕ) → Enough u → (f : Value) (args : List Value) (lines : List ℕ) → Runs l (u + 1) (call code again f args lines)
    call_fed u e f args lines = if_few_fed (u + 1) lines args _ (fed u e (Apply f args lines lines))

    -- what the steps without parts do
    pub record Helped : Type 0 where
      pub declares : (u v c : ℕ) (xs : List Value) (k : Run H) → Runs l u k → Runs l u (declare_all code v c xs k)
      pub declares_one : (u v : ℕ) (x : Value) (k : Run H) → Runs l u k → Runs l u (declare code v x k)
      pub stores : (u : ℕ) → Enough u → (t : Target) (x : Value) (lines : List ℕ) → Runs l u (store_one code again t x lines)
      pub looks : (u : ℕ) → Enough u → (o key : Value) (lines : List ℕ) → Runs l u (look again o key lines)
      pub puts : (u : ℕ) (lines : List ℕ) (t : ℕ) (key x : Value) (k : Run H) → Runs l u k → Runs l u (put lines t key x k)
      pub binaries : (u : ℕ) → Enough u → (op : BinOp) (a b : Value) (lines : List ℕ) → Runs l u (binary again op a b lines)
      pub unaries : (u : ℕ) → Enough u → (op : UnOp) (a : Value) (lines : List ℕ) → Runs l u (unary again op a lines)
      pub closures : (u : ℕ) (c : ClosureOf) → Runs l u (new_closure c)
      pub tables : (u : ℕ) (k : ℕ → Run H) → ((t : ℕ) → Runs l u (k t)) → Runs l u (new_table k)

    module _ (helped : Helped) where
      store_all_fed : (u : ℕ) → Enough u → (ts : List Target) (xs : List Value) (line : ℕ) → Runs l u (store_all code again ts xs line)
      store_all_fed u e [] xs line s r h = h
      store_all_fed u e (t ∷ ts) xs line s r h = after_fed l u _ _ (helped.stores u e t (first xs) (at_line line s) s r h) (λ d. store_all_fed u e ts (drop 1 xs) line)

      pub count_fed : (u : ℕ) → Enough u → (v : ℕ) (block : Tree) (at to step : ℤ) → Runs l u (count code again v block at to step)
      count_fed u e v block at to step = by (makes_turn at to step)
        where
          by : (t : Bool) → Runs l u (if t then tick (again (Count v block at to step)) else go [])
          by true = tick_fed l u _ (fed u e _)
          by false = λ s r h. h

      start_count_fed : (u : ℕ) → Enough u → (v : ℕ) (block : Tree) (a b c : Option ℤ) (lines : List ℕ) → Runs l u (start_count code again v block a b c lines)
      start_count_fed u e v block (Some a) (Some b) (Some c) lines = count_fed u e v block a b c
      start_count_fed u e v block _ _ _ lines = fails_fed l u lines _

      closure_fed : (u i : ℕ) (cells : Option (List ℕ)) → Runs l u (closure_of i cells)
      closure_fed u i None = λ s r h. h
      closure_fed u i (Some cells) = helped.closures u (record { function = i; cells = cells })

      items_fed : (u : ℕ) (lines : List ℕ) (t i : ℕ) (xs : List Value) (k : ℕ → Run H) → ((j : ℕ) → Runs l u (k j)) → Runs l u (put_items lines t i xs k)
      items_fed u lines t i [] k f = f i
      items_fed u lines t i (x ∷ xs) k f = helped.puts u lines t (value.Int (pos i)) x _ (items_fed u lines t (i + 1) xs k f)

      mutual
        unfolding eval statements each_first expressions targets_of target_of choose maybe_eval step_of each_field all_fields

        pub eval_fed : (u : ℕ) → Enough u → (t : Tree) → Runs l u (eval code again t)
        eval_fed u e (syntax.Block i l' stats) = tick_fed l u _ (λ s r h. closed_fed l (u + 1) _ _ (landed_fed (u + 1) (more u e) stats _ _ (statements_fed (u + 1) (more u e) stats _ (λ s r h. h) s r h)))
        eval_fed u e (syntax.Local i l' names exps) = tick_fed l u _ (expressions_fed (u + 1) (more u e) exps _ (λ vs. helped.declares (u + 1) (code.first_variable i) (length names) vs (go []) (λ s r h. h)))
        eval_fed u e (syntax.Assign i l' targets exps) = tick_fed l u _ (targets_fed (u + 1) (more u e) targets _ (λ ts. expressions_fed (u + 1) (more u e) exps _ (λ vs. store_all_fed (u + 1) (more u e) ts vs l')))
        eval_fed u e (syntax.CallStat i l' inner) = tick_fed l u _ (eval_fed (u + 1) (more u e) inner)
        eval_fed u e (syntax.Do i l' block) = tick_fed l u _ (eval_fed (u + 1) (more u e) block)
        eval_fed u e (syntax.While i l' test block) = tick_fed l u _ (λ s r h. loop_ends_fed l (u + 1) _ _ (tick_fed l (u + 1) _ (fed (u + 1) (more u e) _) s r h))
        eval_fed u e (syntax.Repeat i l' block test) = tick_fed l u _ (λ s r h. loop_ends_fed l (u + 1) _ _ (tick_fed l (u + 1) _ (fed (u + 1) (more u e) _) s r h))
        eval_fed u e (syntax.If i l' cases otherwise) = tick_fed l u _ (choose_fed (u + 1) (more u e) cases _ (maybe_fed (u + 1) (more u e) otherwise))
        eval_fed u e (syntax.NumFor i l' name a b c block) = tick_fed l u _ (λ s r h. after_fed l (u + 1) _ _ (eval_fed (u + 1) (more u e) a s r h) (λ x s r h. after_fed l (u + 1) _ _ (eval_fed (u + 1) (more u e) b s r h) (λ y s r h. after_fed l (u + 1) _ _ (step_fed (u + 1) (more u e) c s r h) (λ z s r h. loop_ends_fed l (u + 1) _ _ (start_count_fed (u + 1) (more u e) (code.first_variable i) block (to_int (first x)) (to_int (first y)) (to_int (first z)) (at_line l' s) s r h)))))
        eval_fed u e (syntax.GenFor i l' names exps block) = tick_fed l u _ (expressions_fed (u + 1) (more u e) exps _ (λ vs s r h. loop_ends_fed l (u + 1) _ _ (tick_fed l (u + 1) _ (fed (u + 1) (more u e) _) s r h)))
        eval_fed u e (syntax.LocalFunction i l' name function) = tick_fed l u _ (helped.declares_one (u + 1) (code.first_variable i) value.Nil (λ s r. after (eval code again function s r) (λ vs s r. store_one code again (slot_target (code.first_variable i) (slot_of (locals_of s) (code.first_variable i))) (first vs) (at_line l' s) s r)) (λ s r h. after_fed l (u + 1) _ _ (eval_fed (u + 1) (more u e) function s r h) (λ vs s r h. helped.stores (u + 1) (more u e) (slot_target (code.first_variable i) (slot_of (locals_of s) (code.first_variable i))) (first vs) (at_line l' s) s r h)))
        eval_fed u e (syntax.Return i l' exps) = tick_fed l u _ (expressions_fed (u + 1) (more u e) exps _ (λ vs s r h. if_few_fed (u + 1) (at_line l' s) vs (halt (Returns vs)) (λ s r h. h) s r h))
        eval_fed u e (syntax.Break i l') = tick_fed l u _ (λ s r h. h)
        eval_fed u e (syntax.Goto i l' label) = tick_to l u _ (λ s r h. h)
        eval_fed u e (syntax.Label i l' label) = tick_fed l u _ (λ s r h. h)
        eval_fed u e (syntax.Const i l' v) = tick_fed l u _ (λ s r h. h)
        eval_fed u e (syntax.Vararg i l') = tick_fed l u _ (λ s r h. h)
        eval_fed u e (syntax.Function i l' params vararg block) = tick_fed l u _ (λ s r h. closure_fed (u + 1) i (cells_in (locals_of s) (code.captured i)) s r h)
        eval_fed u e (syntax.Name i l' name) = tick_fed l u _ (λ s r h. h)
        eval_fed u e (syntax.Index i l' object key) = tick_fed l u _ (λ s r h. after_fed l (u + 1) _ _ (eval_fed (u + 1) (more u e) object s r h) (λ o s r h. after_fed l (u + 1) _ _ (eval_fed (u + 1) (more u e) key s r h) (λ k s r h. helped.looks (u + 1) (more u e) (first o) (first k) (at_line l' s) s r h)))
        eval_fed u e (syntax.Call i l' function args) = tick_fed l u _ (λ s r h. after_fed l (u + 1) _ _ (eval_fed (u + 1) (more u e) function s r h) (λ f. expressions_fed (u + 1) (more u e) args _ (λ vs s r h. call_fed u e (first f) vs (at_line l' s) s r h)))
        eval_fed u e (syntax.Method i l' object name args) = tick_fed l u _ (λ s r h. after_fed l (u + 1) _ _ (eval_fed (u + 1) (more u e) object s r h) (λ o s r h. after_fed l (u + 1) _ _ (helped.looks (u + 1) (more u e) (first o) (value.Text name) (at_line l' s) s r h) (λ f. expressions_fed (u + 1) (more u e) args _ (λ vs s r h. call_fed u e (first f) (first o ∷ vs) (at_line l' s) s r h))))
        eval_fed u e (syntax.Binary i l' op left right) = tick_fed l u _ (λ s r h. after_fed l (u + 1) _ _ (eval_fed (u + 1) (more u e) left s r h) (λ a s r h. after_fed l (u + 1) _ _ (eval_fed (u + 1) (more u e) right s r h) (λ b s r h. helped.binaries (u + 1) (more u e) op (first a) (first b) (at_line l' s) s r h)))
        eval_fed u e (syntax.Logic i l' op left right) = tick_fed l u _ (λ s r h. after_fed l (u + 1) _ _ (eval_fed (u + 1) (more u e) left s r h) (λ a. logic_fed (u + 1) op (first a) _ (eval_fed (u + 1) (more u e) right)))
        eval_fed u e (syntax.Unary i l' op operand) = tick_fed l u _ (λ s r h. after_fed l (u + 1) _ _ (eval_fed (u + 1) (more u e) operand s r h) (λ a s r h. helped.unaries (u + 1) (more u e) op (first a) (at_line l' s) s r h))
        eval_fed u e (syntax.Paren i l' inner) = tick_fed l u _ (λ s r h. after_fed l (u + 1) _ _ (eval_fed (u + 1) (more u e) inner s r h) (λ vs s r h. h))
        eval_fed u e (syntax.Table i l' fields) = tick_fed l u _ (helped.tables (u + 1) (λ t. all_fields code again fields t l' (go (value.Table t ∷ []))) (λ t. all_fields_fed (u + 1) (more u e) fields t l' (go (value.Table t ∷ [])) (λ s r h. h)))
        eval_fed u e syntax.Missing = λ s r h. h

        pub statements_fed : (u : ℕ) → Enough u → (ts : Trees) (k : Run H) → Runs l u k → Runs l u (statements code again ts k)
        statements_fed u e none k f = f
        statements_fed u e (snoc ts t) k f = statements_fed u e ts _ (λ s r h. after_fed l u _ _ (eval_fed u e t s r h) (λ vs. f))

        each_first_fed : (u : ℕ) → Enough u → (ts : Trees) (k : List Value → Run H) → ((vs : List Value) → Runs l u (k vs)) → Runs l u (each_first code again ts k)
        each_first_fed u e none k f = f []
        each_first_fed u e (snoc ts t) k f = each_first_fed u e ts _ (λ vs s r h. after_fed l u _ _ (eval_fed u e t s r h) (λ ws. f _))

        expressions_fed : (u : ℕ) → Enough u → (ts : Trees) (k : List Value → Run H) → ((vs : List Value) → Runs l u (k vs)) → Runs l u (expressions code again ts k)
        expressions_fed u e none k f = f []
        expressions_fed u e (snoc ts t) k f = each_first_fed u e ts _ (λ vs s r h. after_fed l u _ _ (eval_fed u e t s r h) (λ ws. f _))

        targets_fed : (u : ℕ) → Enough u → (ts : Trees) (k : List Target → Run H) → ((ps : List Target) → Runs l u (k ps)) → Runs l u (targets_of code again ts k)
        targets_fed u e none k f = f []
        targets_fed u e (snoc ts t) k f = targets_fed u e ts _ (λ ps. target_fed u e t _ (λ p. f _))

        target_fed : (u : ℕ) → Enough u → (t : Tree) (k : Target → Run H) → ((p : Target) → Runs l u (k p)) → Runs l u (target_of code again t k)
        target_fed u e (syntax.Name i l' name) k f = tick_to l u _ (λ s r h. f _ s r (less h))
        target_fed u e (syntax.Index i l' object key) k f = tick_to l u _ (λ s r h. after_fed l u _ _ (eval_fed u e object s r (less h)) (λ o s r h. after_fed l u _ _ (eval_fed u e key s r h) (λ i. f _)))
        target_fed u e _ k f = f _

        choose_fed : (u : ℕ) → Enough u → (cs : Cases) (k : Run H) → Runs l u k → Runs l u (choose code again cs k)
        choose_fed u e syntax.no_case k f = f
        choose_fed u e (syntax.case cs test block) k f = choose_fed u e cs _ (λ s r h. after_fed l u _ _ (eval_fed u e test s r h) (λ vs. by_truth_fed u (first vs) (eval code again block) k (eval_fed u e block) f))

        maybe_fed : (u : ℕ) → Enough u → (m : Maybe) → Runs l u (maybe_eval code again m)
        maybe_fed u e syntax.absent = λ s r h. h
        maybe_fed u e (syntax.present t) = eval_fed u e t

        step_fed : (u : ℕ) → Enough u → (m : Maybe) → Runs l u (step_of code again m)
        step_fed u e syntax.absent = λ s r h. h
        step_fed u e (syntax.present t) = eval_fed u e t

        each_field_fed : (u : ℕ) → Enough u → (fs : Fields) (t line : ℕ) (k : ℕ → Run H) → ((j : ℕ) → Runs l u (k j)) → Runs l u (each_field code again fs t line k)
        each_field_fed u e syntax.no_field t line k f = f 1
        each_field_fed u e (syntax.item fs v) t line k f = each_field_fed u e fs t line _ (λ j s r h. after_fed l u _ _ (eval_fed u e v s r h) (λ ws s r h. items_fed u (at_line line s) t j (first ws ∷ []) k f s r h))
        each_field_fed u e (syntax.named fs name v) t line k f = each_field_fed u e fs t line _ (λ j s r h. after_fed l u _ _ (eval_fed u e v s r h) (λ ws s r h. helped.puts u (at_line line s) t (value.Text name) (first ws) (k j) (f j) s r h))
        each_field_fed u e (syntax.keyed fs key v) t line k f = each_field_fed u e fs t line _ (λ j s r h. after_fed l u _ _ (eval_fed u e key s r h) (λ i s r h. after_fed l u _ _ (eval_fed u e v s r h) (λ ws s r h. helped.puts u (at_line line s) t (first i) (first ws) (k j) (f j) s r h)))

        all_fields_fed : (u : ℕ) → Enough u → (fs : Fields) (t line : ℕ) (k : Run H) → Runs l u k → Runs l u (all_fields code again fs t line k)
        all_fields_fed u e syntax.no_field t line k f = f
        all_fields_fed u e (syntax.item fs v) t line k f = each_field_fed u e fs t line _ (λ j s r h. after_fed l u _ _ (eval_fed u e v s r h) (λ ws s r h. items_fed u (at_line line s) t j ws (λ i. k) (λ i. f) s r h))
        all_fields_fed u e (syntax.named fs name v) t line k f = each_field_fed u e fs t line _ (λ j s r h. after_fed l u _ _ (eval_fed u e v s r h) (λ ws s r h. helped.puts u (at_line line s) t (value.Text name) (first ws) k f s r h))
        all_fields_fed u e (syntax.keyed fs key v) t line k f = each_field_fed u e fs t line _ (λ j s r h. after_fed l u _ _ (eval_fed u e key s r h) (λ i s r h. after_fed l u _ _ (eval_fed u e v s r h) (λ ws s r h. helped.puts u (at_line line s) t (first i) (first ws) k f s r h)))
