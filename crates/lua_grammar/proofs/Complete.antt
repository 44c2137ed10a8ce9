-- The automaton reads what the grammar has, and makes its tree.
use Rattle.std.specs.Prelude.{◌≡◌, ℕ, suc, ◌≤◌, Bool, true, false, cond, List, [], ◌∷◌, ◌++◌, Some, None, refl}
use Rattle.std.proofs.Common.{sym, ◌∙◌, ap, subst, arith}
use Rattle.lua_ast.specs.Tree as tree
use Rattle.lua_ast.specs.Tree.{Tree, Trees, none, snoc, Cases, no_case, absent, present, Fields, no_field, line_of}
use Rattle.lua_grammar.specs.Kinds as kind
use Rattle.lua_grammar.specs.Signs.{Terminal, Attributes, Sign, sign, line_at}
use Rattle.lua_grammar.specs.Operators.{left_of, right_of}
use Rattle.lua_grammar.specs.Grammar.{Room, is_var, is_prefix, ends_open, field_of, self_name, Names, one_name, more_names, Params, no_params, some_params, params_and_more, any_params, Path, path_name, path_dot, Exp, constant, vararg, prefix, table, function, unary, binary, Prefix, name, paren, dot, index, call, method, Args, no_args, some_args, table_arg, text_arg, Commas, no_commas, commas, exps, Table, braces, FieldList, separated, and_last, Separated, no_fields, fields, Field, item_field, named_field, keyed_field, Body, body, Targets, target, targets, Stat, assign, call_stat, label, break, goto, do_block, while, repeat, if_end, if_else, num_for, num_for_step, gen_for, named_function, method_function, local_function, local, local_exps, Conds, first_cond, next_cond, Stats, no_stats, semicolon, stat, Returned, returns_none, returns_none_semicolon, returns, returns_semicolon, Block, stats, stats_return}
use Rattle.lua_grammar.specs.Pushdown.{Begun, begun, add, block_of, Callee, called, method_called, call_of, Purpose, as_value, as_argument, Head, anonymous, assigned, local_named, own_line, given_of, Frame, InParen, InUnary, InBinary, InIndex, InArgs, InItem, InNamed, InKey, InKeyed, InLocal, InStat, InTargets, InAssign, InReturn, InWhileTest, InIfTest, InUntil, InFirst, InLimit, InStep, InIterator, InDo, InWhile, InRepeat, InThen, InElse, InNumFor, InGenFor, InFunction, ForField, ForMethod, ForVariable, ForVariables, ForFunction, ForLocalFunction, State, Need, Have, NameNext, ArgsNext, ArgsOpen, FieldNext, BlockNext, StatNext, LocalNext, LocalNames, PathNext, BodyNext, ParamFirst, ParamNames, TargetNext, ReturnNext, Done, depth, opened, made, finished, field_done, rest, step_from, steps, initial}
use Rattle.lua_grammar.specs.Parses.{Whole}
use Rattle.lua_grammar.proofs.Basics.{size_of, joined_open, FollowsBy, Follows, room_true, open_step, if_true, prefix_is, prefix_open, level_ok, operator_no_suffix, taken, begun_constant, begun_unary, follows_less, follows_right, pop_unary, pop_binary}
use Rattle.lua_grammar.proofs.Starting.{exp_starts, commas_start, args_start, field_start, return_start, BeginsPrefix, need_begins, BeginsArgs, args_begins, prefix_begins_args, IsList}
use Rattle.lua_grammar.proofs.Nexts.{After, after_follows, Ends, ends_after, local_end, local_exps_by, assign_by, call_by, over, stat_next, apart_after, ends_there, stats_there, block_start, end_steps, stats_end, return_end, block_end, exps_end, ends_no_assign, conds_steps, then_end, ends_field, field_follows, field_over, separator_ends, separated_done, field_no_assign, path_end}

names_ok : {x y : List Sign} {ns : List (List ℕ)} → Names x y ns → (l : ℕ) (b : Begun) (k : List Frame) → steps x (Some (LocalNext l b k)) ≡ steps y (Some (LocalNames l ns b k))
names_ok one_name l b k = refl
names_ok (more_names n) l b k = names_ok n l b k

variables_comma : {x y : List Sign} {i : Attributes} {ns : List (List ℕ)} → Names x (sign kind.Comma i ∷ y) ns → (l : ℕ) (b : Begun) (k : List Frame) →
    steps x (Some (NameNext (ForVariable l b) k)) ≡ steps y (Some (NameNext (ForVariables l ns b) k))
variables_comma one_name l b k = refl
variables_comma (more_names n) l b k = variables_comma n l b k

variables_in : {x y : List Sign} {i : Attributes} {ns : List (List ℕ)} → Names x (sign kind.In i ∷ y) ns → (l : ℕ) (b : Begun) (k : List Frame) →
    steps x (Some (NameNext (ForVariable l b) k)) ≡ steps y (Some (Need 0 (InIterator l ns none b ∷ k)))
variables_in one_name l b k = refl
variables_in (more_names n) l b k = variables_comma n l b k

param_names_ok : {x y : List Sign} {ns : List (List ℕ)} → Names x y ns → (h : Head) (k : List Frame) → steps x (Some (ParamFirst h k)) ≡ steps y (Some (ParamNames h ns k))
param_names_ok one_name h k = refl
param_names_ok (more_names n) h k = param_names_ok n h k

params_ok : {x y : List Sign} {i : Attributes} {ns : List (List ℕ)} {more : Bool} → Params x (sign kind.CloseParen i ∷ y) ns more → (h : Head) (k : List Frame) →
    steps x (Some (ParamFirst h k)) ≡ steps y (Some (BlockNext (InFunction h ns more ∷ k)))
params_ok no_params h k = refl
params_ok (some_params n) h k = param_names_ok n h k
params_ok (params_and_more n) h k = param_names_ok n h k
params_ok any_params h k = refl

path_ok : {x y : List Sign} {t : Tree} → Path x y t → (l : ℕ) (b : Begun) (k : List Frame) → steps x (Some (NameNext (ForFunction l b) k)) ≡ steps y (Some (PathNext l t b k))
path_ok path_name l b k = refl
path_ok (path_dot p) l b k = path_ok p l b k

stat_begins : (b : Begun) (k : List Frame) → BeginsPrefix (StatNext b k) 10 (InStat b ∷ k)
stat_begins b k = record { at_name = λ i. refl; at_open = λ i. refl }

target_begins : (l : ℕ) (ts : Trees) (b : Begun) (k : List Frame) → BeginsPrefix (TargetNext l ts b k) 10 (InTargets l ts b ∷ k)
target_begins l ts b k = record { at_name = λ i. refl; at_open = λ i. refl }

body_done : (h : Head) (k : List Frame) (ns : List (List ℕ)) (more : Bool) (b : Tree) (given : List (List ℕ)) (line : ℕ) → given_of h ≡ given → own_line h ≡ line →
    finished h k (tree.Function 0 (own_line h) (given_of h ++ ns) more b) ≡ finished h k (tree.Function 0 line (given ++ ns) more b)
body_done h k ns more b given line e f =
    ap (λ n. finished h k (tree.Function 0 n (given_of h ++ ns) more b)) f ∙ ap (λ g. finished h k (tree.Function 0 line (g ++ ns) more b)) e

mutual
  pub exp_ok : {d n : ℕ} {x y : List Sign} {t : Tree} → Exp d n x y t → (p : ℕ) (k : List Frame) → d ≡ depth k → p ≤ n → Follows n (ends_open t) y →
      steps x (Some (Need p k)) ≡ steps y (Some (Have p t k))
  exp_ok (constant {m = m} {i = i} {v = v} {y = y} c) p k e h f = ap (steps y) (begun_constant p k m i v c)
  exp_ok vararg p k e h f = refl
  exp_ok (prefix a) p k e h f = prefix_ok a (Need p k) p k (need_begins p k) e
  exp_ok (table a) p k e h f = table_ok a (as_value p) (Need p k) k (λ i. refl) e
  exp_ok (function {i = i} {x = x} r b) p k e h f =
      open_step x k i (BodyNext (anonymous p i.line) k) _ e r ∙ body_ok b (anonymous p i.line) k (ap suc e) refl refl
  exp_ok (unary {n = n} {m = m} {i = i} {op = op} {x = x} {y = y} {t = t} u l r a) p k e h f =
      ap (steps x) (begun_unary p k m i op _ u (omega arith) e r)
      ∙ exp_ok a 7 (InUnary p i.line op ∷ k) (ap suc e) (omega arith) (follows_less n 7 (ends_open t) l y f)
      ∙ pop_unary p i.line op k t n y l f
  exp_ok (binary {n = n} {m = m} {i = i} {op = op} {x = x} {y = y} {z = z} {l = l} {r = r} a o j q b) p k e h f =
      let g = subst (λ b. Follows n b z) (joined_open op l r) f in
      exp_ok a p k e (omega (arith, (size_of op).above)) (subst (FollowsBy (left_of op)) (sym o) (omega arith), λ _. operator_no_suffix m op o)
      ∙ ap (steps y) (taken p l k m i op (rest k l m i) _ o (omega arith) (level_ok a (size_of op).most) e q)
      ∙ exp_ok b (right_of op) (InBinary p op l ∷ k) (ap suc e) (omega arith) (follows_right n op (ends_open r) j z g)
      ∙ pop_binary p op l k r n z j g

  prefix_ok : {d : ℕ} {x y : List Sign} {t : Tree} → Prefix d x y t → (o : State) (p : ℕ) (k : List Frame) → BeginsPrefix o p k → d ≡ depth k →
      steps x (Some o) ≡ steps y (Some (Have p t k))
  prefix_ok (name {i = i} {y = y}) o p k b e = ap (steps y) (b.at_name i)
  prefix_ok (paren {i = i} {x = x} r a) o p k b e =
      ap (steps x) (b.at_open i) ∙ open_step x k i (Need 0 (InParen p i.line ∷ k)) _ e r ∙ exp_ok a 0 (InParen p i.line ∷ k) (ap suc e) (omega arith) (tt, λ _. refl)
  prefix_ok (dot {i = i} {j = j} {y = y} {t = t} a) o p k b e =
      prefix_ok a o p k b e ∙ ap (steps (sign kind.Name j ∷ y)) (if_true (is_prefix t) (Some (NameNext (ForField p t) k)) (rest k t kind.Dot i) (prefix_is a))
  prefix_ok (index {i = i} {y = y} {t = t} a r u) o p k b e =
      prefix_ok a o p k b e ∙ ap (steps y) (if_true (is_prefix t) (opened k i (Need 0 (InIndex p t ∷ k))) (rest k t kind.OpenBracket i) (prefix_is a))
      ∙ open_step y k i (Need 0 (InIndex p t ∷ k)) _ e r ∙ exp_ok u 0 (InIndex p t ∷ k) (ap suc e) (omega arith) (tt, λ _. refl)
  prefix_ok (call {t = t} a c) o p k b e =
      prefix_ok a o p k b e ∙ args_ok c (Have p t k) p (called t) k (prefix_begins_args p t k (prefix_is a)) e
  prefix_ok (method {i = i} {j = j} {y = y} {t = t} a c) o p k b e =
      prefix_ok a o p k b e ∙ ap (steps (sign kind.Name j ∷ y)) (if_true (is_prefix t) (Some (NameNext (ForMethod p t) k)) (rest k t kind.Colon i) (prefix_is a))
      ∙ args_ok c (ArgsNext p (method_called t j.slice) k) p (method_called t j.slice) k (args_begins p (method_called t j.slice) k) e

  args_ok : {d : ℕ} {x y : List Sign} {ts : Trees} → Args d x y ts → (o : State) (p : ℕ) (c : Callee) (k : List Frame) → BeginsArgs o p c k → d ≡ depth k →
      steps x (Some o) ≡ steps y (Some (Have p (call_of c ts) k))
  args_ok (no_args {i = i} {j = j} {y = y} r) o p c k b e =
      ap (steps (sign kind.CloseParen j ∷ y)) (b.at_open i) ∙ open_step (sign kind.CloseParen j ∷ y) k i (ArgsOpen p c k) _ e r
  args_ok (some_args {i = i} {x = x} r (exps {ts = ts} cs a)) o p c k b e =
      ap (steps x) (b.at_open i) ∙ open_step x k i (ArgsOpen p c k) _ e r ∙ args_start p c k x (commas_start cs a refl)
      ∙ commas_ok cs (InArgs p c) k (λ ts. (ap suc e, λ t i. refl)) ∙ exp_ok a 0 (InArgs p c ts ∷ k) (ap suc e) (omega arith) (tt, λ _. refl)
  args_ok (table_arg a) o p c k b e = table_ok a (as_argument p c) o k (λ i. b.at_brace i) e
  args_ok (text_arg {i = i} {y = y}) o p c k b e = ap (steps y) (b.at_text i)

  commas_ok : {d : ℕ} {x y : List Sign} {ts : Trees} → Commas d x y ts → (f : Trees → Frame) (k : List Frame) → IsList f k d →
      steps x (Some (Need 0 (f none ∷ k))) ≡ steps y (Some (Need 0 (f ts ∷ k)))
  commas_ok no_commas f k l = refl
  commas_ok (commas {i = i} {z = z} {ts = ts} {t = t} cs a) f k l =
      commas_ok cs f k l ∙ exp_ok a 0 (f ts ∷ k) (l ts).0 (omega arith) (tt, λ _. refl) ∙ ap (steps z) ((l ts).1 t i)

  table_ok : {d : ℕ} {x y : List Sign} {t : Tree} → Table d x y t → (u : Purpose) (o : State) (k : List Frame) →
      ((i : Attributes) → step_from o kind.OpenBrace i ≡ opened k i (FieldNext u i.line no_field k)) → d ≡ depth k → steps x (Some o) ≡ steps y (Some (made u t k))
  table_ok (braces {i = i} {j = j} {x = x} r f) u o k b e =
      ap (steps x) (b i) ∙ open_step x k i (FieldNext u i.line no_field k) _ e r ∙ fields_ok f u i.line k (ap suc e)

  fields_ok : {d : ℕ} {x y : List Sign} {i : Attributes} {fs : Fields} → FieldList d x (sign kind.CloseBrace i ∷ y) fs → (u : Purpose) (l : ℕ) (k : List Frame) → d ≡ suc (depth k) →
      steps x (Some (FieldNext u l no_field k)) ≡ steps y (Some (made u (tree.Table 0 l fs) k))
  fields_ok (separated s) u l k e = separated_ok s u l k e
  fields_ok (and_last s f) u l k e = separated_ok s u l k e ∙ field_ok f u l k e refl

  separated_ok : {d : ℕ} {x y : List Sign} {fs : Fields} → Separated d x y fs → (u : Purpose) (l : ℕ) (k : List Frame) → d ≡ suc (depth k) →
      steps x (Some (FieldNext u l no_field k)) ≡ steps y (Some (FieldNext u l fs k))
  separated_ok no_fields u l k e = refl
  separated_ok (fields {m = m} {z = z} {gs = gs} s f h) u l k e =
      separated_ok s u l k e ∙ field_ok f u l k e (separator_ends m h) ∙ ap (steps z) (separated_done u l gs k m h)

  field_ok : {d : ℕ} {m : Terminal} {i : Attributes} {x y : List Sign} {fs gs : Fields} → Field d x (sign m i ∷ y) fs gs → (u : Purpose) (l : ℕ) (k : List Frame) → d ≡ suc (depth k) → ends_field m ≡ true →
      steps x (Some (FieldNext u l fs k)) ≡ steps y (field_done u l gs k m)
  field_ok {m = m} {i = i} {x = x} {y = y} {fs = fs} (item_field {t = t} a) u l k e h =
      field_start u l fs k x (exp_starts a (field_no_assign m h)) ∙ exp_ok a 0 (InItem u l fs ∷ k) e (omega arith) (field_follows m (ends_open t) h)
      ∙ ap (steps y) (field_over (InItem u l fs) t k m i h (λ m i. refl))
  field_ok {m = m} {i = i} {y = y} {fs = fs} (named_field {i = n} {t = t} a) u l k e h =
      exp_ok a 0 (InNamed u l fs n.slice ∷ k) e (omega arith) (field_follows m (ends_open t) h)
      ∙ ap (steps y) (field_over (InNamed u l fs n.slice) t k m i h (λ m i. refl))
  field_ok {m = m} {i = i} {y = y} {fs = fs} (keyed_field {i = j} {x = x} {y = z} {k = key} {t = t} r a b) u l k e h =
      ap (λ c. steps x (cond c (Some (Need 0 (InKey u l fs ∷ k))) None)) (room_true (suc (suc (depth k))) j.counted (subst (λ d. Room (suc d) j.counted) e r))
      ∙ exp_ok a 0 (InKey u l fs ∷ k) (ap suc e) (omega arith) (tt, λ _. refl)
      ∙ exp_ok b 0 (InKeyed u l fs key ∷ k) e (omega arith) (field_follows m (ends_open t) h)
      ∙ ap (steps y) (field_over (InKeyed u l fs key) t k m i h (λ m i. refl))

  body_ok : {d line : ℕ} {given : List (List ℕ)} {x y : List Sign} {t : Tree} → Body d given line x y t → (h : Head) (k : List Frame) → d ≡ suc (depth k) → given_of h ≡ given → own_line h ≡ line →
      steps x (Some (BodyNext h k)) ≡ steps y (Some (finished h k t))
  body_ok (body {line = line} {given = given} {ns = ns} {more = more} {i = i} {x = x} {z = z} {b = b} r ps bl) h k e f g =
      open_step x (InFunction h [] false ∷ k) i (ParamFirst h k) _ e r ∙ params_ok ps h k ∙ block_ok bl (InFunction h ns more ∷ k) e refl
      ∙ ap (λ o. steps z (Some o)) (body_done h k ns more b given line f g)

  targets_comma : {d l : ℕ} {i : Attributes} {x y : List Sign} {ts : Trees} → Targets d l x (sign kind.Comma i ∷ y) ts → (b : Begun) (k : List Frame) → d ≡ depth k →
      steps x (Some (StatNext b k)) ≡ steps y (Some (TargetNext l ts b k))
  targets_comma {i = i} {y = y} (target {t = t} a h) b k e =
      prefix_ok a (StatNext b k) 10 (InStat b ∷ k) (stat_begins b k) e ∙ ap (steps y) (if_true (is_var t) (Some (TargetNext (line_of t) (snoc none t) b k)) None h)
  targets_comma {l = l} {i = i} {y = y} (targets {ts = ts} {t = t} s a h) b k e =
      targets_comma s b k e ∙ prefix_ok a (TargetNext l ts b k) 10 (InTargets l ts b ∷ k) (target_begins l ts b k) e ∙ ap (steps y) (if_true (is_var t) (Some (TargetNext l (snoc ts t) b k)) None h)

  targets_assign : {d l : ℕ} {i : Attributes} {x y : List Sign} {ts : Trees} → Targets d l x (sign kind.Assign i ∷ y) ts → (b : Begun) (k : List Frame) → d ≡ depth k →
      steps x (Some (StatNext b k)) ≡ steps y (Some (Need 0 (InAssign l ts none b ∷ k)))
  targets_assign {i = i} {y = y} (target {t = t} a h) b k e =
      prefix_ok a (StatNext b k) 10 (InStat b ∷ k) (stat_begins b k) e ∙ ap (steps y) (if_true (is_var t) (Some (Need 0 (InAssign (line_of t) (snoc none t) none b ∷ k))) None h)
  targets_assign {l = l} {i = i} {y = y} (targets {ts = ts} {t = t} s a h) b k e =
      targets_comma s b k e ∙ prefix_ok a (TargetNext l ts b k) 10 (InTargets l ts b ∷ k) (target_begins l ts b k) e ∙ ap (steps y) (if_true (is_var t) (Some (Need 0 (InAssign l (snoc ts t) none b ∷ k))) None h)

  stat_ok : {d : ℕ} {o : Bool} {x y : List Sign} {t : Tree} → Stat d x y t o → (b : Begun) (k : List Frame) → d ≡ depth k → After o y →
      steps x (Some (StatNext b k)) ≡ steps y (Some (StatNext (add b t) k))
  stat_ok (assign {line = l} {z = z} {vs = vs} s (exps {ts = ts} {t = t} cs a)) b k e h =
      targets_assign s b k e ∙ commas_ok cs (λ es. InAssign l vs es b) k (λ ts. (e, λ t i. refl))
      ∙ exp_ok a 0 (InAssign l vs ts b ∷ k) e (omega arith) (after_follows 0 (ends_open t) z h)
      ∙ over (InAssign l vs ts b) t (tree.Assign 0 l vs (snoc ts t)) b k 0 z h (λ m i. refl) (assign_by l vs ts b t k)
  stat_ok (call_stat {y = y} {t = t} a c) b k e h =
      prefix_ok a (StatNext b k) 10 (InStat b ∷ k) (stat_begins b k) e
      ∙ over (InStat b) t (tree.CallStat 0 (line_of t) t) b k 10 y (subst (λ o. After o y) (sym (prefix_open t (prefix_is a))) h) (λ m i. refl) (λ m i n. call_by b t k m i n c)
  stat_ok label b k e h = refl
  stat_ok break b k e h = refl
  stat_ok goto b k e h = refl
  stat_ok (do_block {i = i} {x = x} r bl) b k e h = open_step x k i (BlockNext (InDo i.line b ∷ k)) _ e r ∙ block_ok bl (InDo i.line b ∷ k) (ap suc e) refl
  stat_ok (while {i = i} {j = j} {y = y} {t = t} a r bl) b k e h =
      exp_ok a 0 (InWhileTest i.line b ∷ k) e (omega arith) (tt, λ _. refl) ∙ open_step y k j (BlockNext (InWhile i.line t b ∷ k)) _ e r ∙ block_ok bl (InWhile i.line t b ∷ k) (ap suc e) refl
  stat_ok (repeat {i = i} {x = x} {z = z} {b = bt} {t = t} r bl a) b k e h =
      open_step x k i (BlockNext (InRepeat i.line b ∷ k)) _ e r ∙ block_ok bl (InRepeat i.line b ∷ k) (ap suc e) refl
      ∙ exp_ok a 0 (InUntil i.line bt b ∷ k) e (omega arith) (after_follows 0 (ends_open t) z h)
      ∙ over (InUntil i.line bt b) t (tree.Repeat 0 i.line bt t) b k 0 z h (λ m i. refl) (λ m i n. refl)
  stat_ok (if_end cs) b k e h = conds_ok cs b k e refl
  stat_ok (if_else {line = l} {i = i} {y = y} {cs = c} cs r bl) b k e h =
      conds_ok cs b k e refl ∙ open_step y k i (BlockNext (InElse l c b ∷ k)) _ e r ∙ block_ok bl (InElse l c b ∷ k) (ap suc e) refl
  stat_ok (num_for {i = i} {j = j} {n = n} {z = z} {a = ta} {e = te} a s r bl) b k e h =
      exp_ok a 0 (InFirst i.line j.slice b ∷ k) e (omega arith) (tt, λ _. refl) ∙ exp_ok s 0 (InLimit i.line j.slice ta b ∷ k) e (omega arith) (tt, λ _. refl)
      ∙ open_step z k n (BlockNext (InNumFor i.line j.slice ta te absent b ∷ k)) _ e r ∙ block_ok bl (InNumFor i.line j.slice ta te absent b ∷ k) (ap suc e) refl
  stat_ok (num_for_step {i = i} {j = j} {o = o} {u = u} {a = ta} {e = te} {s = ts} a s c r bl) b k e h =
      exp_ok a 0 (InFirst i.line j.slice b ∷ k) e (omega arith) (tt, λ _. refl) ∙ exp_ok s 0 (InLimit i.line j.slice ta b ∷ k) e (omega arith) (tt, λ _. refl)
      ∙ exp_ok c 0 (InStep i.line j.slice ta te b ∷ k) e (omega arith) (tt, λ _. refl)
      ∙ open_step u k o (BlockNext (InNumFor i.line j.slice ta te (present ts) b ∷ k)) _ e r ∙ block_ok bl (InNumFor i.line j.slice ta te (present ts) b ∷ k) (ap suc e) refl
  stat_ok (gen_for {i = i} {l = l} {z = z} {ns = ns} n (exps {ts = ts} {t = t} cs a) r bl) b k e h =
      variables_in n i.line b k ∙ commas_ok cs (λ es. InIterator i.line ns es b) k (λ ts. (e, λ t i. refl))
      ∙ exp_ok a 0 (InIterator i.line ns ts b ∷ k) e (omega arith) (tt, λ _. refl)
      ∙ open_step z k l (BlockNext (InGenFor i.line ns (snoc ts t) b ∷ k)) _ e r ∙ block_ok bl (InGenFor i.line ns (snoc ts t) b ∷ k) (ap suc e) refl
  stat_ok (named_function {i = i} {x = x} {y = y} {t = t} r p f) b k e h =
      open_step x k i (NameNext (ForFunction i.line b) k) _ e r ∙ path_ok p i.line b k ∙ path_end t y i.line b k f
      ∙ body_ok f (assigned i.line t [] b) k (ap suc e) refl refl
  stat_ok (method_function {i = i} {l = l} {x = x} {t = t} r p f) b k e h =
      open_step x k i (NameNext (ForFunction i.line b) k) _ e r ∙ path_ok p i.line b k
      ∙ body_ok f (assigned i.line (field_of t l) (self_name ∷ []) b) k (ap suc e) refl refl
  stat_ok (local_function {i = i} {j = j} {l = l} {x = x} r f) b k e h =
      open_step (sign kind.Name l ∷ x) k j (NameNext (ForLocalFunction i.line j.line b) k) _ e r
      ∙ body_ok f (local_named i.line j.line l.slice b) k (ap suc e) refl refl
  stat_ok (local {i = i} {y = y} {ns = ns} n) b k e h = names_ok n i.line b k ∙ local_end i.line ns b k y h
  stat_ok (local_exps {i = i} {z = z} {ns = ns} n (exps {ts = ts} {t = t} cs a)) b k e h =
      names_ok n i.line b k ∙ commas_ok cs (λ es. InLocal i.line ns es b) k (λ ts. (e, λ t i. refl))
      ∙ exp_ok a 0 (InLocal i.line ns ts b ∷ k) e (omega arith) (after_follows 0 (ends_open t) z h)
      ∙ over (InLocal i.line ns ts b) t (tree.Local 0 i.line ns (snoc ts t)) b k 0 z h (λ m i. refl) (local_exps_by i.line ns ts b t k)

  conds_ok : {d l : ℕ} {x y : List Sign} {cs : Cases} → Conds d l x y cs → (b : Begun) (k : List Frame) → d ≡ depth k → Ends y → steps x (Some (StatNext b k)) ≡ conds_steps l cs b k y
  conds_ok (first_cond {i = i} {j = j} {y = y} {z = z} {t = t} {b = bt} a r bl) b k e h =
      exp_ok a 0 (InIfTest i.line no_case b ∷ k) e (omega arith) (tt, λ _. refl) ∙ open_step y k j (BlockNext (InThen i.line no_case t b ∷ k)) _ e r
      ∙ block_ok bl (InThen i.line no_case t b ∷ k) (ap suc e) h ∙ then_end i.line no_case t b bt k z
  conds_ok (next_cond {line = l} {j = j} {z = z} {u = u} {cs = c} {t = t} {b = bt} cs a r bl) b k e h =
      conds_ok cs b k e refl ∙ exp_ok a 0 (InIfTest l c b ∷ k) e (omega arith) (tt, λ _. refl) ∙ open_step z k j (BlockNext (InThen l c t b ∷ k)) _ e r
      ∙ block_ok bl (InThen l c t b ∷ k) (ap suc e) h ∙ then_end l c t b bt k u

  stats_ok : {d : ℕ} {o : Bool} {x y : List Sign} {ts : Trees} → Stats d x y ts o → (l : ℕ) (k : List Frame) → d ≡ depth k → After o y →
      steps x (Some (StatNext (begun l) k)) ≡ steps y (Some (StatNext (record { line = l; stats = ts }) k))
  stats_ok no_stats l k e h = refl
  stats_ok (semicolon ss) l k e h = stats_ok ss l k e (refl, λ _. refl)
  stats_ok (stat {o = o} {y = y} {ts = ts} ss a st) l k e h = stats_ok ss l k e (apart_after o y a (stat_next st)) ∙ stat_ok st (record { line = l; stats = ts }) k e h

  block_ok : {d : ℕ} {x y : List Sign} {t : Tree} → Block d x y t → (k : List Frame) → d ≡ depth k → Ends y → steps x (Some (BlockNext k)) ≡ end_steps k t y
  block_ok (stats {o = o} {x = x} {y = y} {ts = ts} ss) k e h =
      block_start x k (stats_there ss (ends_there y h)) ∙ stats_ok ss (line_at x) k e (ends_after o y h) ∙ stats_end (record { line = line_at x; stats = ts }) k y h
  block_ok (stats_return {i = i} {x = x} {y = y} {z = z} {ts = ts} ss r) k e h =
      block_start x k (stats_there ss tt) ∙ stats_ok ss (line_at x) k e (refl, λ _. refl) ∙ returned_ok r i.line (record { line = line_at x; stats = ts }) k e h

  returned_ok : {d : ℕ} {x y : List Sign} {es : Trees} → Returned d x y es → (l : ℕ) (b : Begun) (k : List Frame) → d ≡ depth k → Ends y →
      steps x (Some (ReturnNext l b k)) ≡ end_steps k (block_of (add b (tree.Return 0 l es))) y
  returned_ok (returns_none {x = x}) l b k e h = return_end l b k x h
  returned_ok (returns_none_semicolon {x = x}) l b k e h = block_end (add b (tree.Return 0 l none)) k x h
  returned_ok (returns {x = x} {y = y} (exps {ts = ts} {t = t} cs a)) l b k e h =
      return_start l b k x (commas_start cs a (ends_no_assign y h)) ∙ commas_ok cs (λ es. InReturn l es b) k (λ us. (e, λ t i. refl))
      ∙ exp_ok a 0 (InReturn l ts b ∷ k) e (omega arith) (after_follows 0 (ends_open t) y (ends_after (ends_open t) y h)) ∙ exps_end l ts b t k y h
  returned_ok (returns_semicolon {x = x} {y = y} (exps {ts = ts} {t = t} cs a)) l b k e h =
      return_start l b k x (commas_start cs a refl) ∙ commas_ok cs (λ es. InReturn l es b) k (λ us. (e, λ t i. refl))
      ∙ exp_ok a 0 (InReturn l ts b ∷ k) e (omega arith) (tt, λ _. refl) ∙ block_end (add b (tree.Return 0 l (snoc ts t))) k y h

-- A whole text is accepted with its tree.
pub accepted : (x : List Sign) (t : Tree) → Whole x t → steps x initial ≡ Some (Done t)
accepted x t (i, b) = block_ok b [] refl refl
