-- The gotos that the walk through a text meets are those of its tree, and each is refused as the blocks around it say.
use Rattle.std.proofs.Common.{◌≡◌, ℕ, ◌+◌, ◌-◌, Bool, true, false, if◌then◌else◌, List, [], ◌∷◌, ◌++◌, length, map, reverse, take, Option, Some, slice_get, refl, sym, ap, subst, ◌∙◌, arith, append-nil, append_assoc}
use Rattle.std.proofs.lemmas.List.{reverse-append}
use Rattle.lua_lexer.specs.declared.token.Token.{Token}
use Rattle.lua_ast.specs.Tree as node
use Rattle.lua_ast.specs.Tree.{Tree, Trees, none, snoc, Cases, no_case, case, absent, present, Fields, no_field, item, named, keyed}
use Rattle.lua_grammar.specs.Signs.{Sign}
use Rattle.lua_grammar.specs.Operators.{Operator, value, logic, joined as joined_by}
use Rattle.lua_grammar.specs.Grammar.{Path, path_name, path_dot, Exp, constant, vararg, prefix, table, function, unary, binary, Prefix, name, paren, dot, index, call, method, Args, no_args, some_args, table_arg, text_arg, Commas, no_commas, commas, Exps, exps, Table, braces, FieldList, separated, and_last, Separated, no_fields, fields, Field, item_field, named_field, keyed_field, Body, body, Targets, target, targets, Stat, assign, call_stat, label, break, goto, do_block, while, repeat, if_end, if_else, num_for, num_for_step, gen_for, named_function, method_function, local_function, local, local_exps, Conds, first_cond, next_cond, Stats, no_stats, semicolon, stat, Returned, returns_none, returns_none_semicolon, returns, returns_semicolon, Block, stats, stats_return}
use Rattle.lua_grammar.specs.Parses.{Parses}
use Rattle.lua_scope.specs.declared.occurrence.Occurrence.{Occurrence}
use Rattle.lua_scope.specs.declared.occurrence.Occurrence.TheVariants as occurrence
use Rattle.lua_scope.specs.declared.occurrence.ScopeKind.{ScopeKind}
use Rattle.lua_scope.specs.declared.occurrence.ScopeKind.TheVariants as kind
use Rattle.lua_scope.specs.declared.frame.Variable.{Variable}
use Rattle.lua_scope.specs.declared.frame.Frame.{Frame}
use Rattle.lua_scope.specs.declared.load_error.LoadError.{LoadError}
use Rattle.lua_scope.specs.declared.load_error.LoadError.TheVariants.{NoLabel}
use Rattle.lua_scope.specs.Labels.{labels_of, inside_of, locals_at, locals_left, has_label}
use Rattle.lua_scope.specs.Walk.{opens, walked, list_walked, stats_walked, body_walked, cases_walked, fields_walked}
use Rattle.lua_scope.specs.Scope.{ScopeState, scope, scope_closed, cut_to, entered, variables_from, first_variable}
use Rattle.lua_scope.specs.Refusals.{target as target_at, landing, jump_in, jump}
use Rattle.lua_scope.specs.Gotos.{Enclosing, followed_by, stats_of, GotoThere, gotos, list_gotos, stats_gotos, body_gotos, cases_gotos, fields_gotos}

-- ---- what a goto is refused for, and what those are refused for that a walk has met

abbrev pub inside_by : Bool → Trees → ℕ
inside_by repeats ts = if repeats then length (labels_of ts) else inside_of ts

abbrev pub refused : ℕ → List ℕ → List Enclosing → Option LoadError
refused l x [] = Some (NoLabel l)
refused l x (e ∷ es) = landing l (locals_left e.before) (target_at x (inside_by e.repeats (stats_of e)) (labels_of (stats_of e))) (refused l x es)

abbrev pub told : GotoThere → Option LoadError
told g = refused g.line g.label g.around

abbrev pub refusals_met : List Occurrence → List (Option LoadError)
refusals_met [] = []
refusals_met (occurrence.Goto l x ∷ seen) = jump l x (length (scope seen).variables) (reverse (scope seen).frames) ∷ refusals_met seen
refusals_met (_ ∷ seen) = refusals_met seen

-- ---- lists

length-both : {X : Type 0} (xs ys : List X) → length (xs ++ ys) ≡ length xs + length ys
length-both [] ys = omega arith
length-both (x ∷ xs) ys = let e : length (xs ++ ys) ≡ length xs + length ys = length-both xs ys in omega arith

take-front : {X : Type 0} (xs ys : List X) → take (length xs) (xs ++ ys) ≡ xs
take-front [] ys = refl
take-front {X = X} (x ∷ xs) ys = ap (λ (zs : List X). x ∷ zs) (take-front xs ys)

get-last : {X : Type 0} (xs : List X) (x : X) → slice_get (xs ++ x ∷ []) (length xs) ≡ Some x
get-last [] x = refl
get-last (y ∷ ys) x = get-last ys x

one-less : {X : Type 0} (xs : List X) (x : X) → length (xs ++ x ∷ []) - 1 ≡ length xs
one-less xs x = let e : length (xs ++ x ∷ []) ≡ length xs + length (x ∷ []) = length-both xs (x ∷ []) in omega arith

count-named : (n : ℕ) (names : List (List ℕ)) → length (variables_from n names) ≡ length names
count-named n [] = refl
count-named n (x ∷ xs) = let e : length (variables_from (n + 1) xs) ≡ length xs = count-named (n + 1) xs in omega arith

-- ---- states of the scope

abbrev state : List Variable → List Frame → ScopeState
state vs fs = record { variables = vs; frames = fs }

abbrev frame_of : ScopeKind → List Variable → Frame
frame_of k vs = record { kind = k; begins = length vs }

closed-state : (k : ScopeKind) (vs more : List Variable) (fs : List Frame) → scope_closed (state (vs ++ more) (fs ++ frame_of k vs ∷ [])) ≡ state vs fs
closed-state k vs more fs =
    ap (λ (o : Option Frame). cut_to o (state (vs ++ more) (fs ++ frame_of k vs ∷ []))) (ap (slice_get (fs ++ frame_of k vs ∷ [])) (one-less fs (frame_of k vs)) ∙ get-last fs (frame_of k vs))
    ∙ (ap (λ (us : List Variable). state us (take (length (fs ++ frame_of k vs ∷ []) - 1) (fs ++ frame_of k vs ∷ []))) (take-front vs more)
    ∙ ap (state vs) (ap (λ (n : ℕ). take n (fs ++ frame_of k vs ∷ [])) (one-less fs (frame_of k vs)) ∙ take-front fs (frame_of k vs ∷ [])))

-- A walk goes on and leaves the scope as it was.
record Stays (seen new : List Occurrence) (found next : List GotoThere) : Type 0 where
  state_is : scope new ≡ scope seen
  same : refusals_met seen ≡ map told found → refusals_met new ≡ map told next

-- A walk goes on in a scope that was opened, in which n locals have been declared.
record Opened (k : ScopeKind) (n : ℕ) (seen new : List Occurrence) (found next : List GotoThere) : Type 0 where
  more : List Variable
  count : length more ≡ n
  state_is : scope new ≡ state ((scope seen).variables ++ more) ((scope seen).frames ++ frame_of k (scope seen).variables ∷ [])
  same : refusals_met seen ≡ map told found → refusals_met new ≡ map told next

-- A goto from here is refused as these blocks say.
record At (around : List Enclosing) (seen : List Occurrence) : Type 0 where
  jumps : (l : ℕ) (x : List ℕ) → jump l x (length (scope seen).variables) (reverse (scope seen).frames) ≡ refused l x around

rests : (h : List Occurrence) (f : List GotoThere) → Stays h h f f
rests h f = record { state_is = refl; same = λ e. e }

on : {a b c : List Occurrence} {f g h : List GotoThere} → Stays a b f g → Stays b c g h → Stays a c f h
on p q = record { state_is = q.state_is ∙ p.state_is; same = λ e. q.same (p.same e) }

declares : (i n : ℕ) (h : List Occurrence) (f : List GotoThere) → Stays h (occurrence.Declare i n ∷ h) f f
unfolding scope
declares i n h f = record { state_is = refl; same = λ e. e }

opened_now : (k : ScopeKind) (h : List Occurrence) (f : List GotoThere) → Opened k 0 h (occurrence.Open k ∷ h) f f
unfolding scope
opened_now k h f = record {
  more = [];
  count = refl;
  state_is = ap (λ (vs : List Variable). state vs ((scope h).frames ++ frame_of k (scope h).variables ∷ [])) (sym (append-nil (scope h).variables));
  same = λ e. e;
}

opened_on : {k : ScopeKind} {n : ℕ} {a b c : List Occurrence} {f g h : List GotoThere} → Opened k n a b f g → Stays b c g h → Opened k n a c f h
opened_on o s = record { more = o.more; count = o.count; state_is = s.state_is ∙ o.state_is; same = λ e. s.same (o.same e) }

-- a statement that declares no local
opened_stays : {k : ScopeKind} {n : ℕ} {a b c : List Occurrence} {f g h : List GotoThere} → Opened k n a b f g → Stays b c g h → Opened k (n + 0) a c f h
opened_stays {n = n} o s = record { more = o.more; count = o.count ∙ (omega arith); state_is = s.state_is ∙ o.state_is; same = λ e. s.same (o.same e) }

opened_enters : {k : ScopeKind} {n : ℕ} {a b : List Occurrence} {f g : List GotoThere} → Opened k n a b f g → (i : ℕ) (names : List (List ℕ))
    → Opened k (n + length names) a (occurrence.Enter i names ∷ b) f g
unfolding scope
opened_enters {k = k} {n = n} {a = a} {b = b} o i names =
    let both : length (o.more ++ variables_from (first_variable b i) names) ≡ length o.more + length (variables_from (first_variable b i) names) = length-both o.more (variables_from (first_variable b i) names) in
    let had : length o.more ≡ n = o.count in
    let fresh : length (variables_from (first_variable b i) names) ≡ length names = count-named (first_variable b i) names in
    record {
      more = o.more ++ variables_from (first_variable b i) names;
      count = omega arith;
      state_is = ap (entered (first_variable b i) names) o.state_is
          ∙ ap (λ (vs : List Variable). state vs ((scope a).frames ++ frame_of k (scope a).variables ∷ [])) (append_assoc (scope a).variables o.more (variables_from (first_variable b i) names));
      same = o.same;
    }

closes : {k : ScopeKind} {n : ℕ} {a b : List Occurrence} {f g : List GotoThere} → Opened k n a b f g → Stays a (occurrence.Close ∷ b) f g
unfolding scope
closes {k = k} {a = a} o = record { state_is = ap scope_closed o.state_is ∙ closed-state k (scope a).variables o.more (scope a).frames; same = o.same }

-- ---- where a goto leads from a place

at_after : {around : List Enclosing} {a b : List Occurrence} {f g : List GotoThere} → At around a → Stays a b f g → At around b
at_after {around = around} at s = record {
  jumps = λ l x. subst (λ (st : ScopeState). jump l x (length st.variables) (reverse st.frames) ≡ refused l x around) (sym s.state_is) (at.jumps l x);
}

jump_opened : (l : ℕ) (x : List ℕ) (k : ScopeKind) (s : ScopeState) (more : List Variable)
    → jump l x (length (s.variables ++ more)) (reverse (s.frames ++ frame_of k s.variables ∷ []))
    ≡ jump_in l x (length (s.variables ++ more) - length s.variables) k (jump l x (length s.variables) (reverse s.frames))
jump_opened l x k s more = ap (jump l x (length (s.variables ++ more))) (reverse-append s.frames (frame_of k s.variables ∷ []))

at_opened : (around : List Enclosing) {k : ScopeKind} {n : ℕ} {a b : List Occurrence} {f g : List GotoThere} (o : Opened k n a b f g)
    → ((l : ℕ) (x : List ℕ) → jump_in l x (length ((scope a).variables ++ o.more) - length (scope a).variables) k (jump l x (length (scope a).variables) (reverse (scope a).frames)) ≡ refused l x around)
    → At around b
at_opened around {k = k} {a = a} o is = record {
  jumps = λ l x. subst (λ (st : ScopeState). jump l x (length st.variables) (reverse st.frames) ≡ refused l x around) (sym o.state_is)
      (jump_opened l x k (scope a) o.more ∙ is l x);
}

at_function : {i n : ℕ} {vararg : Bool} {a b : List Occurrence} {f g : List GotoThere} → Opened (kind.Function i vararg) n a b f g → At [] b
at_function o = at_opened [] o (λ l x. refl)

at_loop : (around : List Enclosing) {n : ℕ} {a b : List Occurrence} {f g : List GotoThere} → Opened kind.Loop n a b f g → At around a → At around b
at_loop around o at = at_opened around o (λ l x. at.jumps l x)

abbrev block_kind : Bool → Trees → ScopeKind
block_kind repeats ts = kind.Block (labels_of ts) (inside_by repeats ts)

left : (vs more : List Variable) (n : ℕ) → length more ≡ n → length (vs ++ more) - length vs ≡ n
left vs more n e = let both : length (vs ++ more) ≡ length vs + length more = length-both vs more in omega arith

at_block : (repeats : Bool) (before : Trees) (after : List Tree) (around : List Enclosing) {a b : List Occurrence} {f g : List GotoThere}
    → Opened (block_kind repeats (followed_by before after)) (locals_left before) a b f g → At around a
    → At (record { repeats = repeats; before = before; after = after } ∷ around) b
at_block repeats before after around {a = a} o at = at_opened (record { repeats = repeats; before = before; after = after } ∷ around) o (λ l x.
    ap (λ (n : ℕ). landing l n (target_at x (inside_by repeats (followed_by before after)) (labels_of (followed_by before after))) (jump l x (length (scope a).variables) (reverse (scope a).frames))) (left (scope a).variables o.more (locals_left before) o.count)
    ∙ ap (landing l (locals_left before) (target_at x (inside_by repeats (followed_by before after)) (labels_of (followed_by before after)))) (at.jumps l x))

at_start : At [] []
unfolding scope
at_start = record { jumps = λ l x. refl }

-- what a loop repeats
turns : (around : List Enclosing) (i : ℕ) (names : List (List ℕ)) {a b new : List Occurrence} {f g h : List GotoThere}
    → At around a → Stays a b f g
    → (At around (occurrence.Enter i names ∷ occurrence.Open kind.Loop ∷ b) → Stays (occurrence.Enter i names ∷ occurrence.Open kind.Loop ∷ b) new g h)
    → Stays a (occurrence.Close ∷ new) f h
turns around i names {b = b} {g = g} at front block =
    let begun : Opened kind.Loop (0 + length names) b (occurrence.Enter i names ∷ occurrence.Open kind.Loop ∷ b) g g = opened_enters (opened_now kind.Loop b g) i names in
    on front (closes (opened_on begun (block (at_loop around begun (at_after at front)))))

labelled : (again : Bool) (l : ℕ) (h : List Occurrence) (f : List GotoThere) → Stays h (if again then occurrence.SecondLabel l ∷ h else h) f f
unfolding scope
labelled true l h f = record { state_is = refl; same = λ e. e }
labelled false l h f = record { state_is = refl; same = λ e. e }

-- a goto is met
jumps_away : (around : List Enclosing) (l : ℕ) (x : List ℕ) (h : List Occurrence) (f : List GotoThere) → At around h
    → Stays h (occurrence.Goto l x ∷ h) f (record { line = l; label = x; around = around } ∷ f)
unfolding scope
jumps_away around l x h f at = record {
  state_is = refl;
  same = λ e. ap (λ (r : Option LoadError). r ∷ refusals_met h) (at.jumps l x) ∙ ap (λ (rs : List (Option LoadError)). refused l x around ∷ rs) e;
}

joined_stays : (op : Operator) (l r : Tree) (around : List Enclosing) (f : List GotoThere) (h : List Occurrence)
    → Stays h (walked (walked h l) r) f (gotos around (gotos around f l) r) → Stays h (walked h (joined_by op l r)) f (gotos around f (joined_by op l r))
unfolding walked gotos
joined_stays (value op) l r around f h s = s
joined_stays (logic op) l r around f h s = s

-- The body of a repeat is still open.
record BodyOpened (seen new : List Occurrence) (found next : List GotoThere) : Type 0 where
  kind_of : ScopeKind
  count_of : ℕ
  opened : Opened kind_of count_of seen new found next

-- ---- the parts of a text, by the grammar

path_stays : {x y : List Sign} {t : Tree} → Path x y t → (a : List Enclosing) (f : List GotoThere) (h : List Occurrence) → Stays h (walked h t) f (gotos a f t)
unfolding walked gotos scope
path_stays path_name a f h = record { state_is = refl; same = λ e. e }
path_stays (path_dot p) a f h = path_stays p a f h

mutual
  unfolding walked gotos scope

  exp_stays : {d n : ℕ} {x y : List Sign} {t : Tree} → Exp d n x y t → (a : List Enclosing) (f : List GotoThere) (h : List Occurrence) → Stays h (walked h t) f (gotos a f t)
  exp_stays (constant _) a f h = record { state_is = refl; same = λ e. e }
  exp_stays vararg a f h = record { state_is = refl; same = λ e. e }
  exp_stays (prefix p) a f h = prefix_stays p a f h
  exp_stays (table b) a f h = table_stays b a f h
  exp_stays (function _ b) a f h = body_stays b a f h
  exp_stays (unary _ _ _ e) a f h = exp_stays e a f h
  exp_stays (binary {op = op} {l = l} {r = r} p _ _ _ q) a f h =
      joined_stays op l r a f h (on (exp_stays p a f h) (exp_stays q a (gotos a f l) (walked h l)))

  prefix_stays : {d : ℕ} {x y : List Sign} {t : Tree} → Prefix d x y t → (a : List Enclosing) (f : List GotoThere) (h : List Occurrence) → Stays h (walked h t) f (gotos a f t)
  prefix_stays name a f h = record { state_is = refl; same = λ e. e }
  prefix_stays (paren _ e) a f h = exp_stays e a f h
  prefix_stays (dot p) a f h = prefix_stays p a f h
  prefix_stays (index {t = t} p _ e) a f h = on (prefix_stays p a f h) (exp_stays e a (gotos a f t) (walked h t))
  prefix_stays (call {t = t} p e) a f h = on (prefix_stays p a f h) (args_stay e a (gotos a f t) (walked h t))
  prefix_stays (method {t = t} p e) a f h = on (prefix_stays p a f h) (args_stay e a (gotos a f t) (walked h t))

  args_stay : {d : ℕ} {x y : List Sign} {ts : Trees} → Args d x y ts → (a : List Enclosing) (f : List GotoThere) (h : List Occurrence) → Stays h (list_walked h ts) f (list_gotos a f ts)
  args_stay (no_args _) a f h = rests h f
  args_stay (some_args _ es) a f h = exps_stay es a f h
  args_stay (table_arg b) a f h = table_stays b a f h
  args_stay text_arg a f h = rests h f

  commas_stay : {d : ℕ} {x y : List Sign} {ts : Trees} → Commas d x y ts → (a : List Enclosing) (f : List GotoThere) (h : List Occurrence) → Stays h (list_walked h ts) f (list_gotos a f ts)
  commas_stay no_commas a f h = rests h f
  commas_stay (commas {ts = ts} cs e) a f h = on (commas_stay cs a f h) (exp_stays e a (list_gotos a f ts) (list_walked h ts))

  exps_stay : {d : ℕ} {x y : List Sign} {ts : Trees} {o : Bool} → Exps d x y ts o → (a : List Enclosing) (f : List GotoThere) (h : List Occurrence) → Stays h (list_walked h ts) f (list_gotos a f ts)
  exps_stay (exps {ts = ts} cs e) a f h = on (commas_stay cs a f h) (exp_stays e a (list_gotos a f ts) (list_walked h ts))

  table_stays : {d : ℕ} {x y : List Sign} {t : Tree} → Table d x y t → (a : List Enclosing) (f : List GotoThere) (h : List Occurrence) → Stays h (walked h t) f (gotos a f t)
  table_stays (braces _ fs) a f h = list_stays fs a f h

  list_stays : {d : ℕ} {x y : List Sign} {fs : Fields} → FieldList d x y fs → (a : List Enclosing) (f : List GotoThere) (h : List Occurrence) → Stays h (fields_walked h fs) f (fields_gotos a f fs)
  list_stays (separated s) a f h = separated_stay s a f h
  list_stays (and_last s e) a f h = field_stays e a f h (separated_stay s a f h)

  separated_stay : {d : ℕ} {x y : List Sign} {fs : Fields} → Separated d x y fs → (a : List Enclosing) (f : List GotoThere) (h : List Occurrence) → Stays h (fields_walked h fs) f (fields_gotos a f fs)
  separated_stay no_fields a f h = rests h f
  separated_stay (fields s e _) a f h = field_stays e a f h (separated_stay s a f h)

  field_stays : {d : ℕ} {x y : List Sign} {fs gs : Fields} → Field d x y fs gs → (a : List Enclosing) (f : List GotoThere) (h : List Occurrence) → Stays h (fields_walked h fs) f (fields_gotos a f fs) → Stays h (fields_walked h gs) f (fields_gotos a f gs)
  field_stays (item_field {fs = fs} e) a f h s = on s (exp_stays e a (fields_gotos a f fs) (fields_walked h fs))
  field_stays (named_field {fs = fs} e) a f h s = on s (exp_stays e a (fields_gotos a f fs) (fields_walked h fs))
  field_stays (keyed_field {fs = fs} {k = k} _ p q) a f h s =
      on s (on (exp_stays p a (fields_gotos a f fs) (fields_walked h fs)) (exp_stays q a (gotos a (fields_gotos a f fs) k) (walked (fields_walked h fs) k)))

  body_stays : {d l : ℕ} {given : List (List ℕ)} {x y : List Sign} {t : Tree} → Body d given l x y t → (a : List Enclosing) (f : List GotoThere) (h : List Occurrence) → Stays h (walked h t) f (gotos a f t)
  body_stays (body {given = given} {ns = ns} {more = more} _ _ b) a f h =
      let begun : Opened (kind.Function 0 more) (0 + length (given ++ ns)) h (occurrence.Enter 0 (given ++ ns) ∷ occurrence.Declare 0 (length (given ++ ns)) ∷ occurrence.Open (kind.Function 0 more) ∷ h) f f =
      opened_enters (opened_on (opened_now (kind.Function 0 more) h f) (declares 0 (length (given ++ ns)) (occurrence.Open (kind.Function 0 more) ∷ h) f)) 0 (given ++ ns) in
      closes (opened_on begun (block_stays b [] f (occurrence.Enter 0 (given ++ ns) ∷ occurrence.Declare 0 (length (given ++ ns)) ∷ occurrence.Open (kind.Function 0 more) ∷ h) (at_function begun)))

  targets_stay : {d l : ℕ} {x y : List Sign} {ts : Trees} → Targets d l x y ts → (a : List Enclosing) (f : List GotoThere) (h : List Occurrence) → Stays h (list_walked h ts) f (list_gotos a f ts)
  targets_stay (target p _) a f h = prefix_stays p a f h
  targets_stay (targets {ts = ts} q p _) a f h = on (targets_stay q a f h) (prefix_stays p a (list_gotos a f ts) (list_walked h ts))

  -- a statement behind those of its block that stand before it
  stat_opened : {d : ℕ} {x y : List Sign} {t : Tree} {p : Bool} → Stat d x y t p → (a : List Enclosing) (k : ScopeKind) (h begun : List Occurrence) (ts : Trees) (f g : List GotoThere)
      → At a (stats_walked begun ts) → Opened k (locals_left ts) h (stats_walked begun ts) f g
      → Opened k (locals_left ts + locals_at t) h (stats_walked begun (snoc ts t)) f (gotos a g t)
  stat_opened (assign {vs = vs} p e) a k h begun ts f g at o =
      opened_stays {n = locals_left ts} o (on (targets_stay p a g (stats_walked begun ts)) (exps_stay e a (list_gotos a g vs) (list_walked (stats_walked begun ts) vs)))
  stat_opened (call_stat p _) a k h begun ts f g at o = opened_stays {n = locals_left ts} o (prefix_stays p a g (stats_walked begun ts))
  stat_opened (label {i = i} {j = j}) a k h begun ts f g at o = opened_stays {n = locals_left ts} o (labelled (has_label j.slice ts) i.line (stats_walked begun ts) g)
  stat_opened break a k h begun ts f g at o = opened_stays {n = locals_left ts} o (record { state_is = refl; same = λ e. e })
  stat_opened (goto {i = i} {j = j}) a k h begun ts f g at o = opened_stays {n = locals_left ts} o (jumps_away a i.line j.slice (stats_walked begun ts) g at)
  stat_opened (do_block _ b) a k h begun ts f g at o = opened_stays {n = locals_left ts} o (block_stays b a g (stats_walked begun ts) at)
  stat_opened (while {t = t} e _ b) a k h begun ts f g at o =
      let test : Stays (stats_walked begun ts) (walked (stats_walked begun ts) t) g (gotos a g t) = exp_stays e a g (stats_walked begun ts) in
      let loop : Opened kind.Loop 0 (walked (stats_walked begun ts) t) (occurrence.Open kind.Loop ∷ walked (stats_walked begun ts) t) (gotos a g t) (gotos a g t) = opened_now kind.Loop (walked (stats_walked begun ts) t) (gotos a g t) in
      opened_stays {n = locals_left ts} o (on test (closes (opened_on loop (block_stays b a (gotos a g t) (occurrence.Open kind.Loop ∷ walked (stats_walked begun ts) t) (at_loop a loop (at_after at test))))))
  stat_opened (repeat {b = b} _ p e) a k h begun ts f g at o =
      let loop : Opened kind.Loop 0 (stats_walked begun ts) (occurrence.Open kind.Loop ∷ stats_walked begun ts) g g = opened_now kind.Loop (stats_walked begun ts) g in
      let inner : BodyOpened (occurrence.Open kind.Loop ∷ stats_walked begun ts) (body_walked true (occurrence.Open kind.Loop ∷ stats_walked begun ts) b) g (body_gotos a g b) = body_opened p a g (occurrence.Open kind.Loop ∷ stats_walked begun ts) (at_loop a loop at) in
      opened_stays {n = locals_left ts} o (closes (opened_on loop (closes (opened_on inner.opened (exp_stays e a (body_gotos a g b) (body_walked true (occurrence.Open kind.Loop ∷ stats_walked begun ts) b))))))
  stat_opened (if_end cs) a k h begun ts f g at o = opened_stays {n = locals_left ts} o (conds_stay cs a g (stats_walked begun ts) at)
  stat_opened (if_else {cs = cs} p _ b) a k h begun ts f g at o =
      let tests : Stays (stats_walked begun ts) (cases_walked (stats_walked begun ts) cs) g (cases_gotos a g cs) = conds_stay p a g (stats_walked begun ts) at in
      opened_stays {n = locals_left ts} o (on tests (block_stays b a (cases_gotos a g cs) (cases_walked (stats_walked begun ts) cs) (at_after at tests)))
  stat_opened (num_for {j = j} {a = u} {e = v} p q _ b) a k h begun ts f g at o =
      let front : Stays (stats_walked begun ts) (walked (walked (occurrence.Declare 0 1 ∷ stats_walked begun ts) u) v) g (gotos a (gotos a g u) v) =
      on (declares 0 1 (stats_walked begun ts) g) (on (exp_stays p a g (occurrence.Declare 0 1 ∷ stats_walked begun ts)) (exp_stays q a (gotos a g u) (walked (occurrence.Declare 0 1 ∷ stats_walked begun ts) u))) in
      opened_stays {n = locals_left ts} o (turns a 0 (j.slice ∷ []) at front (λ there.
      block_stays b a (gotos a (gotos a g u) v) (occurrence.Enter 0 (j.slice ∷ []) ∷ occurrence.Open kind.Loop ∷ walked (walked (occurrence.Declare 0 1 ∷ stats_walked begun ts) u) v) there))
  stat_opened (num_for_step {j = j} {a = u} {e = v} {s = w} p q r _ b) a k h begun ts f g at o =
      let front : Stays (stats_walked begun ts) (walked (walked (walked (occurrence.Declare 0 1 ∷ stats_walked begun ts) u) v) w) g (gotos a (gotos a (gotos a g u) v) w) =
      on (declares 0 1 (stats_walked begun ts) g) (on (exp_stays p a g (occurrence.Declare 0 1 ∷ stats_walked begun ts)) (on (exp_stays q a (gotos a g u) (walked (occurrence.Declare 0 1 ∷ stats_walked begun ts) u))
      (exp_stays r a (gotos a (gotos a g u) v) (walked (walked (occurrence.Declare 0 1 ∷ stats_walked begun ts) u) v)))) in
      opened_stays {n = locals_left ts} o (turns a 0 (j.slice ∷ []) at front (λ there.
      block_stays b a (gotos a (gotos a (gotos a g u) v) w) (occurrence.Enter 0 (j.slice ∷ []) ∷ occurrence.Open kind.Loop ∷ walked (walked (walked (occurrence.Declare 0 1 ∷ stats_walked begun ts) u) v) w) there))
  stat_opened (gen_for {ns = ns} {ts = us} _ e _ b) a k h begun ts f g at o =
      let front : Stays (stats_walked begun ts) (list_walked (occurrence.Declare 0 (length ns) ∷ stats_walked begun ts) us) g (list_gotos a g us) =
      on (declares 0 (length ns) (stats_walked begun ts) g) (exps_stay e a g (occurrence.Declare 0 (length ns) ∷ stats_walked begun ts)) in
      opened_stays {n = locals_left ts} o (turns a 0 ns at front (λ there.
      block_stays b a (list_gotos a g us) (occurrence.Enter 0 ns ∷ occurrence.Open kind.Loop ∷ list_walked (occurrence.Declare 0 (length ns) ∷ stats_walked begun ts) us) there))
  stat_opened (named_function {t = t} _ p b) a k h begun ts f g at o =
      opened_stays {n = locals_left ts} o (on (path_stays p a g (stats_walked begun ts)) (body_stays b a (gotos a g t) (walked (stats_walked begun ts) t)))
  stat_opened (method_function {t = t} _ p b) a k h begun ts f g at o =
      opened_stays {n = locals_left ts} o (on (path_stays p a g (stats_walked begun ts)) (body_stays b a (gotos a g t) (walked (stats_walked begun ts) t)))
  stat_opened (local_function {l = l} _ b) a k h begun ts f g at o =
      opened_on (opened_enters {n = locals_left ts} (opened_on o (declares 0 1 (stats_walked begun ts) g)) 0 (l.slice ∷ []))
      (body_stays b a g (occurrence.Enter 0 (l.slice ∷ []) ∷ occurrence.Declare 0 1 ∷ stats_walked begun ts))
  stat_opened (local {ns = ns} _) a k h begun ts f g at o = opened_enters {n = locals_left ts} (opened_on o (declares 0 (length ns) (stats_walked begun ts) g)) 0 ns
  stat_opened (local_exps {ns = ns} _ e) a k h begun ts f g at o =
      opened_enters {n = locals_left ts} (opened_on (opened_on o (declares 0 (length ns) (stats_walked begun ts) g)) (exps_stay e a g (occurrence.Declare 0 (length ns) ∷ stats_walked begun ts))) 0 ns

  conds_stay : {d l : ℕ} {x y : List Sign} {cs : Cases} → Conds d l x y cs → (a : List Enclosing) (f : List GotoThere) (h : List Occurrence) → At a h → Stays h (cases_walked h cs) f (cases_gotos a f cs)
  conds_stay (first_cond {t = t} e _ b) a f h at =
      let test : Stays h (walked h t) f (gotos a f t) = exp_stays e a f h in
      on test (block_stays b a (gotos a f t) (walked h t) (at_after at test))
  conds_stay (next_cond {cs = cs} {t = t} c e _ b) a f h at =
      let test : Stays h (walked (cases_walked h cs) t) f (gotos a (cases_gotos a f cs) t) = on (conds_stay c a f h at) (exp_stays e a (cases_gotos a f cs) (cases_walked h cs)) in
      on test (block_stays b a (gotos a (cases_gotos a f cs) t) (walked (cases_walked h cs) t) (at_after at test))

  stats_opened : {d : ℕ} {x y : List Sign} {ts : Trees} {p : Bool} → Stats d x y ts p → (repeats : Bool) (after : List Tree) (a : List Enclosing) (f : List GotoThere) (h : List Occurrence) → At a h
      → Opened (block_kind repeats (followed_by ts after)) (locals_left ts) h (stats_walked (opens repeats (followed_by ts after) ∷ h) ts) f (stats_gotos repeats after a f ts)
  stats_opened no_stats repeats after a f h at = opened_now (block_kind repeats (followed_by none after)) h f
  stats_opened (semicolon s) repeats after a f h at = stats_opened s repeats after a f h at
  stats_opened (stat {ts = ts} {t = t} s _ last) repeats after a f h at =
      let before : Opened (block_kind repeats (followed_by ts (t ∷ after))) (locals_left ts) h (stats_walked (opens repeats (followed_by ts (t ∷ after)) ∷ h) ts) f (stats_gotos repeats (t ∷ after) a f ts) = stats_opened s repeats (t ∷ after) a f h at in
      stat_opened last (record { repeats = repeats; before = ts; after = t ∷ after } ∷ a) (block_kind repeats (followed_by ts (t ∷ after))) h (opens repeats (followed_by ts (t ∷ after)) ∷ h) ts f (stats_gotos repeats (t ∷ after) a f ts)
      (at_block repeats ts (t ∷ after) a before at) before

  returned_stays : {d : ℕ} {x y : List Sign} {es : Trees} → Returned d x y es → (a : List Enclosing) (f : List GotoThere) (h : List Occurrence) → Stays h (list_walked h es) f (list_gotos a f es)
  returned_stays returns_none a f h = rests h f
  returned_stays returns_none_semicolon a f h = rests h f
  returned_stays (returns e) a f h = exps_stay e a f h
  returned_stays (returns_semicolon e) a f h = exps_stay e a f h

  block_stays : {d : ℕ} {x y : List Sign} {t : Tree} → Block d x y t → (a : List Enclosing) (f : List GotoThere) (h : List Occurrence) → At a h → Stays h (walked h t) f (gotos a f t)
  block_stays (stats s) a f h at = closes (stats_opened s false [] a f h at)
  block_stays (stats_return {i = i} {ts = ts} {es = es} s r) a f h at =
      closes (opened_on (stats_opened s false (node.Return 0 i.line es ∷ []) a f h at)
      (returned_stays r (record { repeats = false; before = ts; after = node.Return 0 i.line es ∷ [] } ∷ a) (stats_gotos false (node.Return 0 i.line es ∷ []) a f ts) (stats_walked (opens false (snoc ts (node.Return 0 i.line es)) ∷ h) ts)))

  body_opened : {d : ℕ} {x y : List Sign} {t : Tree} → Block d x y t → (a : List Enclosing) (f : List GotoThere) (h : List Occurrence) → At a h → BodyOpened h (body_walked true h t) f (body_gotos a f t)
  body_opened (stats {ts = ts} s) a f h at = record { kind_of = block_kind true ts; count_of = locals_left ts; opened = stats_opened s true [] a f h at }
  body_opened (stats_return {i = i} {ts = ts} {es = es} s r) a f h at = record {
    kind_of = block_kind true (snoc ts (node.Return 0 i.line es));
    count_of = locals_left ts;
    opened = opened_on (stats_opened s true (node.Return 0 i.line es ∷ []) a f h at)
        (returned_stays r (record { repeats = true; before = ts; after = node.Return 0 i.line es ∷ [] } ∷ a) (stats_gotos true (node.Return 0 i.line es ∷ []) a f ts) (stats_walked (opens true (snoc ts (node.Return 0 i.line es)) ∷ h) ts));
  }

-- what each goto of a text is refused for
pub met_gotos : (text : List ℕ) (ts : List Token) (t : Tree) → Parses text ts t → refusals_met (walked [] t) ≡ map told (gotos [] [] t)
met_gotos text ts t (_, b) = (block_stays b [] [] [] at_start).same refl
