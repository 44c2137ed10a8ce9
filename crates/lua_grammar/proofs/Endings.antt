-- Whatever was begun can be ended, by signs whose levels don't count.
use Rattle.std.specs.Prelude.{◌≡◌, ℕ, ◌≤◌, Bool, true, false, List, [], ◌∷◌, ◌++◌, Some, refl}
use Rattle.std.proofs.Common.{◌∙◌, ap, arith, inl, inr, ◌⊎◌}
use Rattle.lua_ast.specs.Tree as tree
use Rattle.lua_ast.specs.Tree.{Tree, Trees, none, snoc, case, absent, present, item, named, keyed, line_of}
use Rattle.lua_grammar.specs.Kinds as kind
use Rattle.lua_grammar.specs.Signs.{Terminal, Sign, sign}
use Rattle.lua_grammar.specs.Values.{numeral_of}
use Rattle.lua_grammar.specs.Operators.{joined}
use Rattle.lua_grammar.specs.Grammar.{is_prefix, ends_open, field_of, self_name}
use Rattle.lua_grammar.specs.Pushdown.{Begun, begun, add, block_of, method_called, call_of, Purpose, Head, assigned, local_named, own_line, given_of, Frame, InKeyed, InStat, InTargets, InUntil, InLimit, InIterator, InWhile, InThen, InNumFor, InGenFor, InFunction, ForField, ForMethod, ForLabel, ForGoto, ForVariable, ForVariables, ForFunction, ForFunctionField, ForFunctionMethod, ForLocalFunction, ForLocal, State, Need, Have, NameNext, ArgsNext, ArgsOpen, FieldNext, FieldName, KeyEnd, BlockNext, StatNext, LabelEnd, LocalNext, LocalNames, LoopName, LoopNames, PathNext, BodyNext, ParamFirst, ParamNext, ParamNames, ParamsEnd, TargetNext, ReturnNext, BlockEnd, Done, text_args, made, finished, end_block, rest, is_end, step_from, steps}
use Rattle.lua_grammar.specs.Parses.{free, frees}
use Rattle.lua_grammar.proofs.Basics.{size_of, FollowsTerminal, Follows, if_true, prefix_is, pop_unary, pop_binary}
use Rattle.lua_grammar.proofs.Nexts.{stats_end_by}
use Rattle.lua_grammar.proofs.Contexts.{Wants, in_paren, in_unary, in_binary, in_index, in_args, in_item, in_named, in_key, in_keyed, in_local, in_stat, in_targets, in_assign, in_return, in_while_test, in_if_test, in_until, in_first, in_limit, in_step, in_iterator, TableAt, table_value, table_argument, HeadAt, head_anonymous, head_path, head_method, head_local, Opens, whole, in_do, in_while, in_repeat, in_then, in_else, in_num_for, in_num_for_step, in_gen_for, in_function, At, at, Part, Sound, stands_need, stands_have, stands_field, stands_method, stands_label, stands_goto, stands_variable, stands_variables, stands_function, stands_function_field, stands_function_method, stands_local_function, stands_local, stands_args_next, stands_args_open, stands_field_next, stands_field_name, stands_key_end, stands_block_next, stands_stat_next, stands_label_end, stands_local_next, stands_local_names, stands_loop_name, stands_loop_names, stands_path_next, stands_body_next, stands_param_first, stands_param_next, stands_param_names, stands_params_end, stands_target_next, stands_return_next, stands_block_end, stands_done, level_most, call_prefix}

abbrev one : Tree
one = tree.Const 0 1 (numeral_of [])

pub record CanEnd (o : State) : Type 0 where
  pub more : List Terminal
  pub tree : Tree
  pub ends : steps (frees more) (Some o) ≡ Some (Done tree)

-- What ends a block.
record BlockEnds (k : List Frame) (t : Tree) : Type 0 where
  terminal : Terminal
  more : List Terminal
  tree : Tree
  ends : steps (frees more) (end_block k t terminal free) ≡ Some (Done tree)
  is_an_end : is_end terminal ≡ true

record HaveEnds (p : ℕ) (t : Tree) (k : List Frame) : Type 0 where
  more : List Terminal
  tree : Tree
  ends : steps (frees more) (Some (Have p t k)) ≡ Some (Done tree)
  plain : p ≤ 9 → Follows 0 true (frees more)

-- One sign, and then what ends the next state.
then_ends : (o : State) (m : Terminal) (o' : State) → step_from o m free ≡ Some o' → CanEnd o' → CanEnd o
then_ends o m o' e r = record { more = m ∷ r.more; tree = r.tree; ends = ap (steps (frees r.more)) e ∙ r.ends }

stats_can_end : (b : Begun) (k : List Frame) → BlockEnds k (block_of b) → CanEnd (StatNext b k)
stats_can_end b k e = record { more = e.terminal ∷ e.more; tree = e.tree; ends = ap (steps (frees e.more)) (stats_end_by b k e.terminal free e.is_an_end) ∙ e.ends }

block_can_end : (b : Begun) (k : List Frame) → BlockEnds k (block_of b) → CanEnd (BlockEnd b k)
block_can_end b k e = record { more = e.terminal ∷ e.more; tree = e.tree; ends = e.ends }

by_terminal : {p : ℕ} {t : Tree} {k : List Frame} (m : Terminal) (o : State) → step_from (Have p t k) m free ≡ Some o → FollowsTerminal 0 true m → CanEnd o → HaveEnds p t k
by_terminal m o e f r = record { more = m ∷ r.more; tree = r.tree; ends = ap (steps (frees r.more)) e ∙ r.ends; plain = λ _. f }

had : {p : ℕ} {t : Tree} {k : List Frame} → HaveEnds p t k → CanEnd (Have p t k)
had h = record { more = h.more; tree = h.tree; ends = h.ends }

by_block : {k : List Frame} {t : Tree} {o : State} (m : Terminal) → end_block k t m free ≡ Some o → is_end m ≡ true → CanEnd o → BlockEnds k t
by_block m e h r = record { terminal = m; more = r.more; tree = r.tree; ends = ap (steps (frees r.more)) e ∙ r.ends; is_an_end = h }

plainer : (b : Bool) (y : List Sign) → Follows 0 true y → Follows 0 b y
plainer b [] f = f
plainer b (sign m i ∷ y) f = (f.0, λ _. f.1 refl)

-- A block may be empty.
block_next_end : (k : List Frame) → ((t : Tree) → BlockEnds k t) → CanEnd (BlockNext k)
block_next_end k h = then_ends (BlockNext k) kind.Semicolon (StatNext (begun 1) k) refl (stats_can_end (begun 1) k (h (block_of (begun 1))))

-- A prefix becomes a statement by a field and a value.
abbrev after_dot : List Terminal → List Terminal
after_dot y = kind.Name ∷ kind.Assign ∷ kind.Numeral ∷ kind.Semicolon ∷ y

dotted : (t : Tree) (k : List Frame) (y : List Sign) → is_prefix t ≡ true → steps (sign kind.Dot free ∷ y) (Some (Have 10 t k)) ≡ steps y (Some (NameNext (ForField 10 t) k))
dotted t k y e = ap (steps y) (if_true (is_prefix t) (Some (NameNext (ForField 10 t) k)) (rest k t kind.Dot free) e)

abbrev assigned_field : Tree → Tree
assigned_field t = tree.Assign 0 (line_of t) (snoc none (field_of t free)) (snoc none one)

by_stat : (t : Tree) (b : Begun) (k : List Frame) → CanEnd (StatNext (add b (assigned_field t)) k) → (is_prefix t ≡ true) ⊎ (10 ≤ 9) → HaveEnds 10 t (InStat b ∷ k)
by_stat t b k f (inl e) = record { more = kind.Dot ∷ after_dot f.more; tree = f.tree; ends = dotted t (InStat b ∷ k) (frees (after_dot f.more)) e ∙ f.ends; plain = λ l. absurd (omega arith) }
by_stat t b k f (inr l) = absurd (omega arith)

by_targets : (t : Tree) (l : ℕ) (ts : Trees) (b : Begun) (k : List Frame) → CanEnd (StatNext (add b (tree.Assign 0 l (snoc ts (field_of t free)) (snoc none one))) k) → (is_prefix t ≡ true) ⊎ (10 ≤ 9) → HaveEnds 10 t (InTargets l ts b ∷ k)
by_targets t l ts b k f (inl e) = record { more = kind.Dot ∷ after_dot f.more; tree = f.tree; ends = dotted t (InTargets l ts b ∷ k) (frees (after_dot f.more)) e ∙ f.ends; plain = λ l. absurd (omega arith) }
by_targets t l ts b k f (inr l') = absurd (omega arith)

module _ (w : List Sign) where
  mutual
    opens_end : {k : List Frame} {x : List Sign} → Opens w k x → (t : Tree) → BlockEnds k t
    opens_end whole t = record { terminal = kind.EndOfText; more = []; tree = t; ends = refl; is_an_end = refl }
    opens_end (in_do {k = k} {b = b} {i = i} a r) t = by_block kind.End refl refl (at_end a (add b (tree.Do 0 i.line t)))
    opens_end (in_while {b = b} {i = i} {t = e} a _ r) t = by_block kind.End refl refl (at_end a (add b (tree.While 0 i.line e t)))
    opens_end (in_repeat {k = k} {b = b} {i = i} a r) t =
        by_block kind.Until refl refl (then_ends (Need 0 (InUntil i.line t b ∷ k)) kind.Numeral (Have 0 one (InUntil i.line t b ∷ k)) refl
        (then_ends (Have 0 one (InUntil i.line t b ∷ k)) kind.Semicolon (StatNext (add b (tree.Repeat 0 i.line t one)) k) refl (at_end a (add b (tree.Repeat 0 i.line t one)))))
    opens_end (in_then {b = b} {l = l} {cs = cs} {t = e} a p q _ r) t = by_block kind.End refl refl (at_end a (add b (tree.If 0 l (case cs e t) absent)))
    opens_end (in_else {b = b} {l = l} {cs = cs} a p q r) t = by_block kind.End refl refl (at_end a (add b (tree.If 0 l cs (present t))))
    opens_end (in_num_for {b = b} {i = i} {j = j} {a = t1} {e = t2} a e f r) t = by_block kind.End refl refl (at_end a (add b (tree.NumFor 0 i.line j.slice t1 t2 absent t)))
    opens_end (in_num_for_step {b = b} {i = i} {j = j} {a = t1} {e = t2} {s = t3} a e f g r) t = by_block kind.End refl refl (at_end a (add b (tree.NumFor 0 i.line j.slice t1 t2 (present t3) t)))
    opens_end (in_gen_for {b = b} {i = i} {ns = ns} {ts = ts} a n e r) t = by_block kind.End refl refl (at_end a (add b (tree.GenFor 0 i.line ns ts t)))
    opens_end (in_function {h = h} {ns = ns} {more = more} a r ps) t = by_block kind.End refl refl (head_end a (tree.Function 0 (own_line h) (given_of h ++ ns) more t))

    at_end : {k : List Frame} {b : Begun} {o : Bool} {x : List Sign} → At w k b o x → (c : Begun) → CanEnd (StatNext c k)
    at_end {k = k} (at a ss) c = stats_can_end c k (opens_end a (block_of c))

    at_block : {k : List Frame} {b : Begun} {o : Bool} {x : List Sign} → At w k b o x → (t : Tree) → BlockEnds k t
    at_block (at a ss) t = opens_end a t

    head_end : {k : List Frame} {h : Head} {x : List Sign} → HeadAt w k h x → (f : Tree) → CanEnd (finished h k f)
    head_end (head_anonymous b l r) f = had (have_end b f (inr l))
    head_end (head_path a r p) f = at_end a _
    head_end (head_method a r p) f = at_end a _
    head_end (head_local a r) f = at_end a _

    table_end : {k : List Frame} {u : Purpose} {l : ℕ} {x : List Sign} → TableAt w k u l x → (t : Tree) → CanEnd (made u t k)
    table_end (table_value b l r) t = had (have_end b t (inr l))
    table_end (table_argument {c = c} b a r) t = had (have_end b (call_of c (snoc none t)) (inl (call_prefix c (snoc none t))))

    have_end : {k : List Frame} {p : ℕ} {x : List Sign} → Wants w k p x → (t : Tree) → (is_prefix t ≡ true) ⊎ (p ≤ 9) → HaveEnds p t k
    have_end (in_paren {k = k} {q = q} {i = i} b r) t h = by_terminal kind.CloseParen (Have q (tree.Paren 0 i.line t) k) refl (tt, λ _. refl) (had (have_end b (tree.Paren 0 i.line t) (inl refl)))
    have_end (in_unary {k = k} {q = q} {i = i} {op = op} b u l r) t h =
        let e = have_end b (tree.Unary 0 i.line op t) (inr (omega arith)) in
        let f = e.plain (omega arith) in
        record { more = e.more; tree = e.tree; ends = pop_unary q i.line op k t 0 (frees e.more) (omega arith) (plainer (ends_open t) (frees e.more) f) ∙ e.ends; plain = λ _. f }
    have_end (in_binary {k = k} {q = q} {op = op} {t = l} b a o i r) t h =
        let e = have_end b (joined op l t) (inr (let s = size_of op in omega (arith, s.above, s.most))) in
        let f = e.plain (let s = size_of op in omega (arith, s.above, s.most)) in
        record { more = e.more; tree = e.tree; ends = pop_binary q op l k t 0 (frees e.more) (omega arith) (plainer (ends_open t) (frees e.more) f) ∙ e.ends; plain = λ _. f }
    have_end (in_index {k = k} {q = q} {t = o} b p r) t h = by_terminal kind.CloseBracket (Have q (tree.Index 0 (line_of o) o t) k) refl (tt, λ _. refl) (had (have_end b (tree.Index 0 (line_of o) o t) (inl refl)))
    have_end (in_args {k = k} {q = q} {c = c} {es = es} b p r cs) t h =
        by_terminal kind.CloseParen (Have q (call_of c (snoc es t)) k) refl (tt, λ _. refl) (had (have_end b (call_of c (snoc es t)) (inl (call_prefix c (snoc es t)))))
    have_end (in_item {k = k} {u = u} {l = l} {fs = fs} a s) t h = by_terminal kind.CloseBrace (made u (tree.Table 0 l (item fs t)) k) refl (tt, λ _. refl) (table_end a (tree.Table 0 l (item fs t)))
    have_end (in_named {k = k} {u = u} {l = l} {i = i} {fs = fs} a s) t h =
        by_terminal kind.CloseBrace (made u (tree.Table 0 l (named fs i.slice t)) k) refl (tt, λ _. refl) (table_end a (tree.Table 0 l (named fs i.slice t)))
    have_end (in_key {k = k} {u = u} {l = l} {fs = fs} a s r) t h =
        by_terminal kind.CloseBracket (KeyEnd u l fs t k) refl (tt, λ _. refl)
        (then_ends (KeyEnd u l fs t k) kind.Assign (Need 0 (InKeyed u l fs t ∷ k)) refl
        (then_ends (Need 0 (InKeyed u l fs t ∷ k)) kind.Numeral (Have 0 one (InKeyed u l fs t ∷ k)) refl
        (then_ends (Have 0 one (InKeyed u l fs t ∷ k)) kind.CloseBrace (made u (tree.Table 0 l (keyed fs t one)) k) refl (table_end a (tree.Table 0 l (keyed fs t one))))))
    have_end (in_keyed {k = k} {u = u} {l = l} {fs = fs} {t = key} a s r e) t h =
        by_terminal kind.CloseBrace (made u (tree.Table 0 l (keyed fs key t)) k) refl (tt, λ _. refl) (table_end a (tree.Table 0 l (keyed fs key t)))
    have_end (in_local {k = k} {b = b} {i = i} {ns = ns} {es = es} a n cs) t h = by_terminal kind.Semicolon (StatNext (add b (tree.Local 0 i.line ns (snoc es t))) k) refl (tt, λ _. refl) (at_end a _)
    have_end (in_stat {k = k} {b = b} a p) t h = by_stat t b k (at_end a (add b (assigned_field t))) h
    have_end (in_targets {k = k} {b = b} {l = l} {ts = ts} a p vs) t h = by_targets t l ts b k (at_end a (add b (tree.Assign 0 l (snoc ts (field_of t free)) (snoc none one)))) h
    have_end (in_assign {k = k} {b = b} {l = l} {ts = ts} {es = es} a p vs cs) t h = by_terminal kind.Semicolon (StatNext (add b (tree.Assign 0 l ts (snoc es t))) k) refl (tt, λ _. refl) (at_end a _)
    have_end (in_return {k = k} {b = b} {i = i} {es = es} a cs) t h =
        by_terminal kind.Semicolon (BlockEnd (add b (tree.Return 0 i.line (snoc es t))) k) refl (tt, λ _. refl) (block_can_end (add b (tree.Return 0 i.line (snoc es t))) k (at_block a _))
    have_end (in_while_test {k = k} {b = b} {i = i} a) t h =
        by_terminal kind.Do (BlockNext (InWhile i.line t b ∷ k)) refl (tt, λ _. refl) (block_next_end (InWhile i.line t b ∷ k) (λ u. by_block kind.End refl refl (at_end a (add b (tree.While 0 i.line t u)))))
    have_end (in_if_test {k = k} {b = b} {l = l} {cs = cs} a p q) t h =
        by_terminal kind.Then (BlockNext (InThen l cs t b ∷ k)) refl (tt, λ _. refl) (block_next_end (InThen l cs t b ∷ k) (λ u. by_block kind.End refl refl (at_end a (add b (tree.If 0 l (case cs t u) absent)))))
    have_end (in_until {k = k} {b = b} {i = i} {t = bt} a r bl) t h = by_terminal kind.Semicolon (StatNext (add b (tree.Repeat 0 i.line bt t)) k) refl (tt, λ _. refl) (at_end a _)
    have_end (in_first {k = k} {b = b} {i = i} {j = j} a) t h =
        by_terminal kind.Comma (Need 0 (InLimit i.line j.slice t b ∷ k)) refl (tt, λ _. refl)
        (then_ends (Need 0 (InLimit i.line j.slice t b ∷ k)) kind.Numeral (Have 0 one (InLimit i.line j.slice t b ∷ k)) refl
        (then_ends (Have 0 one (InLimit i.line j.slice t b ∷ k)) kind.Do (BlockNext (InNumFor i.line j.slice t one absent b ∷ k)) refl
        (block_next_end (InNumFor i.line j.slice t one absent b ∷ k) (λ u. by_block kind.End refl refl (at_end a (add b (tree.NumFor 0 i.line j.slice t one absent u)))))))
    have_end (in_limit {k = k} {b = b} {i = i} {j = j} {a = t1} a e) t h =
        by_terminal kind.Do (BlockNext (InNumFor i.line j.slice t1 t absent b ∷ k)) refl (tt, λ _. refl)
        (block_next_end (InNumFor i.line j.slice t1 t absent b ∷ k) (λ u. by_block kind.End refl refl (at_end a (add b (tree.NumFor 0 i.line j.slice t1 t absent u)))))
    have_end (in_step {k = k} {b = b} {i = i} {j = j} {a = t1} {e = t2} a e f) t h =
        by_terminal kind.Do (BlockNext (InNumFor i.line j.slice t1 t2 (present t) b ∷ k)) refl (tt, λ _. refl)
        (block_next_end (InNumFor i.line j.slice t1 t2 (present t) b ∷ k) (λ u. by_block kind.End refl refl (at_end a (add b (tree.NumFor 0 i.line j.slice t1 t2 (present t) u)))))
    have_end (in_iterator {k = k} {b = b} {i = i} {ns = ns} {es = es} a n cs) t h =
        by_terminal kind.Do (BlockNext (InGenFor i.line ns (snoc es t) b ∷ k)) refl (tt, λ _. refl)
        (block_next_end (InGenFor i.line ns (snoc es t) b ∷ k) (λ u. by_block kind.End refl refl (at_end a (add b (tree.GenFor 0 i.line ns (snoc es t) u)))))

  either : (t : Tree) {d p : ℕ} {b x : List Sign} → Part d p b x t → (is_prefix t ≡ true) ⊎ (p ≤ 9)
  either t (inl a) = inl (prefix_is a)
  either t (inr r) = inr (omega (arith, r.2, level_most t))

  params_can_end : {k : List Frame} {h : Head} {x : List Sign} → HeadAt w k h x → (ns : List (List ℕ)) (more : Bool) → CanEnd (BlockNext (InFunction h ns more ∷ k))
  params_can_end {k = k} {h = h} a ns more = block_next_end (InFunction h ns more ∷ k) (λ u. by_block kind.End refl refl (head_end a (tree.Function 0 (own_line h) (given_of h ++ ns) more u)))

  body_can_end : {k : List Frame} {h : Head} {x : List Sign} → HeadAt w k h x → CanEnd (BodyNext h k)
  body_can_end {k = k} {h = h} a =
      then_ends (BodyNext h k) kind.OpenParen (ParamFirst h k) refl (then_ends (ParamFirst h k) kind.CloseParen (BlockNext (InFunction h [] false ∷ k)) refl (params_can_end a [] false))

  path_can_end : {k : List Frame} {b : Begun} {o : Bool} {x : List Sign} → At w k b o x → (l : ℕ) (t : Tree) → CanEnd (PathNext l t b k)
  path_can_end {k = k} {b = b} a l t =
      then_ends (PathNext l t b k) kind.OpenParen (ParamFirst (assigned l t [] b) k) refl
      (then_ends (ParamFirst (assigned l t [] b) k) kind.CloseParen (BlockNext (InFunction (assigned l t [] b) [] false ∷ k)) refl
      (block_next_end (InFunction (assigned l t [] b) [] false ∷ k) (λ u. by_block kind.End refl refl (at_end a _))))

  method_can_end : {k : List Frame} {b : Begun} {o : Bool} {x : List Sign} → At w k b o x → (h : Head) → ((f : Tree) → CanEnd (finished h k f)) → CanEnd (BodyNext h k)
  method_can_end {k = k} a h g =
      then_ends (BodyNext h k) kind.OpenParen (ParamFirst h k) refl
      (then_ends (ParamFirst h k) kind.CloseParen (BlockNext (InFunction h [] false ∷ k)) refl
      (block_next_end (InFunction h [] false ∷ k) (λ u. by_block kind.End refl refl (g (tree.Function 0 (own_line h) (given_of h ++ []) false u)))))

  loop_can_end : {k : List Frame} {b : Begun} {o : Bool} {x : List Sign} → At w k b o x → (l : ℕ) (ns : List (List ℕ)) → CanEnd (Need 0 (InIterator l ns none b ∷ k))
  loop_can_end {k = k} {b = b} a l ns =
      then_ends (Need 0 (InIterator l ns none b ∷ k)) kind.Numeral (Have 0 one (InIterator l ns none b ∷ k)) refl
      (then_ends (Have 0 one (InIterator l ns none b ∷ k)) kind.Do (BlockNext (InGenFor l ns (snoc none one) b ∷ k)) refl
      (block_next_end (InGenFor l ns (snoc none one) b ∷ k) (λ u. by_block kind.End refl refl (at_end a (add b (tree.GenFor 0 l ns (snoc none one) u))))))

  -- Each state that is reached and is not the last can be ended.
  pub can_end : {o : State} {x : List Sign} → Sound w o x → ((t : Tree) → o ≡ Done t → ⊥) → CanEnd o
  can_end (stands_need {p = p} {k = k} b l) h = then_ends (Need p k) kind.Numeral (Have p one k) refl (had (have_end b one (inr (omega arith))))
  can_end (stands_have {t = t} b e q) h = had (have_end b t (either t e))
  can_end (stands_field {p = p} {t = t} {k = k} b e) h = then_ends (NameNext (ForField p t) k) kind.Name (Have p (field_of t free) k) refl (had (have_end b (field_of t free) (inl refl)))
  can_end (stands_method {p = p} {t = t} {k = k} b e) h =
      then_ends (NameNext (ForMethod p t) k) kind.Name (ArgsNext p (method_called t []) k) refl
      (then_ends (ArgsNext p (method_called t []) k) kind.Text (Have p (call_of (method_called t []) (text_args free)) k) refl (had (have_end b (call_of (method_called t []) (text_args free)) (inl refl))))
  can_end (stands_label {b = b} {i = i} {k = k} a) h =
      then_ends (NameNext (ForLabel i.line b) k) kind.Name (LabelEnd i.line [] b k) refl (then_ends (LabelEnd i.line [] b k) kind.DoubleColon (StatNext (add b (tree.Label 0 i.line [])) k) refl (at_end a _))
  can_end (stands_goto {b = b} {i = i} {k = k} a) h = then_ends (NameNext (ForGoto i.line b) k) kind.Name (StatNext (add b (tree.Goto 0 i.line [])) k) refl (at_end a _)
  can_end (stands_variable {b = b} {i = i} {k = k} a) h =
      then_ends (NameNext (ForVariable i.line b) k) kind.Name (LoopName i.line [] b k) refl (then_ends (LoopName i.line [] b k) kind.In (Need 0 (InIterator i.line ([] ∷ []) none b ∷ k)) refl (loop_can_end a i.line ([] ∷ [])))
  can_end (stands_variables {b = b} {i = i} {ns = ns} {k = k} a n) h =
      then_ends (NameNext (ForVariables i.line ns b) k) kind.Name (LoopNames i.line (ns ++ [] ∷ []) b k) refl (then_ends (LoopNames i.line (ns ++ [] ∷ []) b k) kind.In (Need 0 (InIterator i.line (ns ++ [] ∷ []) none b ∷ k)) refl (loop_can_end a i.line (ns ++ [] ∷ [])))
  can_end (stands_function {b = b} {i = i} {k = k} a r) h = then_ends (NameNext (ForFunction i.line b) k) kind.Name (PathNext i.line (tree.Name 0 1 []) b k) refl (path_can_end a i.line (tree.Name 0 1 []))
  can_end (stands_function_field {b = b} {i = i} {t = t} {k = k} a r p) h = then_ends (NameNext (ForFunctionField i.line t b) k) kind.Name (PathNext i.line (field_of t free) b k) refl (path_can_end a i.line (field_of t free))
  can_end (stands_function_method {b = b} {i = i} {t = t} {k = k} a r p) h =
      then_ends (NameNext (ForFunctionMethod i.line t b) k) kind.Name (BodyNext (assigned i.line (field_of t free) (self_name ∷ []) b) k) refl
      (method_can_end a (assigned i.line (field_of t free) (self_name ∷ []) b) (λ f. at_end a _))
  can_end (stands_local_function {b = b} {i = i} {j = j} {k = k} a r) h =
      then_ends (NameNext (ForLocalFunction i.line j.line b) k) kind.Name (BodyNext (local_named i.line j.line [] b) k) refl (method_can_end a (local_named i.line j.line [] b) (λ f. at_end a _))
  can_end (stands_local {b = b} {i = i} {ns = ns} {k = k} a n) h =
      then_ends (NameNext (ForLocal i.line ns b) k) kind.Name (LocalNames i.line (ns ++ [] ∷ []) b k) refl
      (then_ends (LocalNames i.line (ns ++ [] ∷ []) b k) kind.Semicolon (StatNext (add b (tree.Local 0 i.line (ns ++ [] ∷ []) none)) k) refl (at_end a _))
  can_end (stands_args_next {p = p} {c = c} {k = k} b a) h =
      then_ends (ArgsNext p c k) kind.Text (Have p (call_of c (text_args free)) k) refl (had (have_end b (call_of c (text_args free)) (inl (call_prefix c (text_args free)))))
  can_end (stands_args_open {p = p} {c = c} {k = k} b a r) h = then_ends (ArgsOpen p c k) kind.CloseParen (Have p (call_of c none) k) refl (had (have_end b (call_of c none) (inl (call_prefix c none))))
  can_end (stands_field_next {u = u} {l = l} {fs = fs} {k = k} a s) h = then_ends (FieldNext u l fs k) kind.CloseBrace (made u (tree.Table 0 l fs) k) refl (table_end a (tree.Table 0 l fs))
  can_end (stands_field_name {u = u} {l = l} {i = i} {fs = fs} {k = k} a s) h =
      then_ends (FieldName u l fs i.line i.slice k) kind.CloseBrace (made u (tree.Table 0 l (item fs (tree.Name 0 i.line i.slice))) k) refl (table_end a (tree.Table 0 l (item fs (tree.Name 0 i.line i.slice))))
  can_end (stands_key_end {u = u} {l = l} {fs = fs} {t = t} {k = k} a s r e) h =
      then_ends (KeyEnd u l fs t k) kind.Assign (Need 0 (InKeyed u l fs t ∷ k)) refl
      (then_ends (Need 0 (InKeyed u l fs t ∷ k)) kind.Numeral (Have 0 one (InKeyed u l fs t ∷ k)) refl
      (then_ends (Have 0 one (InKeyed u l fs t ∷ k)) kind.CloseBrace (made u (tree.Table 0 l (keyed fs t one)) k) refl (table_end a (tree.Table 0 l (keyed fs t one)))))
  can_end (stands_block_next {k = k} a) h = block_next_end k (opens_end a)
  can_end (stands_stat_next {b = b} a) h = at_end a b
  can_end (stands_label_end {b = b} {i = i} {j = j} {k = k} a) h = then_ends (LabelEnd i.line j.slice b k) kind.DoubleColon (StatNext (add b (tree.Label 0 i.line j.slice)) k) refl (at_end a _)
  can_end (stands_local_next {b = b} {i = i} {k = k} a) h =
      then_ends (LocalNext i.line b k) kind.Name (LocalNames i.line ([] ∷ []) b k) refl (then_ends (LocalNames i.line ([] ∷ []) b k) kind.Semicolon (StatNext (add b (tree.Local 0 i.line ([] ∷ []) none)) k) refl (at_end a _))
  can_end (stands_local_names {b = b} {i = i} {ns = ns} {k = k} a n) h = then_ends (LocalNames i.line ns b k) kind.Semicolon (StatNext (add b (tree.Local 0 i.line ns none)) k) refl (at_end a _)
  can_end (stands_loop_name {b = b} {i = i} {j = j} {k = k} a) h = then_ends (LoopName i.line j.slice b k) kind.In (Need 0 (InIterator i.line (j.slice ∷ []) none b ∷ k)) refl (loop_can_end a i.line (j.slice ∷ []))
  can_end (stands_loop_names {b = b} {i = i} {ns = ns} {k = k} a n) h = then_ends (LoopNames i.line ns b k) kind.In (Need 0 (InIterator i.line ns none b ∷ k)) refl (loop_can_end a i.line ns)
  can_end (stands_path_next {i = i} {t = t} a r p) h = path_can_end a i.line t
  can_end (stands_body_next a) h = body_can_end a
  can_end (stands_param_first {h = hd} {k = k} a r) h = then_ends (ParamFirst hd k) kind.CloseParen (BlockNext (InFunction hd [] false ∷ k)) refl (params_can_end a [] false)
  can_end (stands_param_next {h = hd} {ns = ns} {k = k} a r n) h =
      then_ends (ParamNext hd ns k) kind.Ellipsis (ParamsEnd hd ns k) refl (then_ends (ParamsEnd hd ns k) kind.CloseParen (BlockNext (InFunction hd ns true ∷ k)) refl (params_can_end a ns true))
  can_end (stands_param_names {h = hd} {ns = ns} {k = k} a r n) h = then_ends (ParamNames hd ns k) kind.CloseParen (BlockNext (InFunction hd ns false ∷ k)) refl (params_can_end a ns false)
  can_end (stands_params_end {h = hd} {ns = ns} {k = k} a r ps) h = then_ends (ParamsEnd hd ns k) kind.CloseParen (BlockNext (InFunction hd ns true ∷ k)) refl (params_can_end a ns true)
  can_end (stands_target_next {b = b} {l = l} {ts = ts} {k = k} a p vs) h = then_ends (TargetNext l ts b k) kind.Name (Have 10 (tree.Name 0 1 []) (InTargets l ts b ∷ k)) refl
      (had (by_targets (tree.Name 0 1 []) l ts b k (at_end a _) (inl refl)))
  can_end (stands_return_next {b = b} {i = i} {k = k} a) h = then_ends (ReturnNext i.line b k) kind.Semicolon (BlockEnd (add b (tree.Return 0 i.line none)) k) refl (block_can_end (add b (tree.Return 0 i.line none)) k (at_block a _))
  can_end (stands_block_end {b = b} {k = k} a bl) h = block_can_end b k (opens_end a (block_of b))
  can_end (stands_done {t = t} bl) h = absurd (h t refl)
