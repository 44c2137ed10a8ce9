-- Where levels don't count, the grammar has no less.
use Rattle.std.specs.Prelude.{◌≡◌, ℕ, Bool, true, false, List, [], ◌∷◌, ◌++◌, refl}
use Rattle.std.proofs.Common.{ap, subst}
use Rattle.lua_ast.specs.Tree as tree
use Rattle.lua_ast.specs.Tree.{Tree, Trees, snoc, Cases, Fields}
use Rattle.lua_grammar.specs.Kinds as kind
use Rattle.lua_grammar.specs.Signs.{Sign, sign, line_at}
use Rattle.lua_grammar.specs.Grammar.{Apart, Names, one_name, more_names, Params, no_params, some_params, params_and_more, any_params, Path, path_name, path_dot, Exp, constant, vararg, prefix, table, function, unary, binary, Prefix, name, paren, dot, index, call, method, Args, no_args, some_args, table_arg, text_arg, Commas, no_commas, commas, Exps, exps, Table, braces, FieldList, separated, and_last, Separated, no_fields, fields, Field, item_field, named_field, keyed_field, Body, body, Targets, target, targets, Stat, assign, call_stat, label, break, goto, do_block, while, repeat, if_end, if_else, num_for, num_for_step, gen_for, named_function, method_function, local_function, local, local_exps, Conds, first_cond, next_cond, Stats, no_stats, semicolon, stat, Returned, returns_none, returns_none_semicolon, returns, returns_semicolon, Block, stats, stats_return}
use Rattle.lua_grammar.specs.Parses.{Whole, Starts, loose}

line_loose : (x : List Sign) → line_at (loose x) ≡ line_at x
line_loose [] = refl
line_loose (sign m i ∷ x) = refl

apart_loose : (o : Bool) (x : List Sign) → Apart o x → Apart o (loose x)
apart_loose true [] h = tt
apart_loose true (sign kind.OpenParen i ∷ x) h = h
apart_loose true (sign _ i ∷ x) h = tt
apart_loose false x h = tt

names_loose : {x y : List Sign} {ns : List (List ℕ)} → Names x y ns → Names (loose x) (loose y) ns
names_loose one_name = one_name
names_loose (more_names n) = more_names (names_loose n)

params_loose : {x y : List Sign} {ns : List (List ℕ)} {more : Bool} → Params x y ns more → Params (loose x) (loose y) ns more
params_loose no_params = no_params
params_loose (some_params n) = some_params (names_loose n)
params_loose (params_and_more n) = params_and_more (names_loose n)
params_loose any_params = any_params

path_loose : {x y : List Sign} {t : Tree} → Path x y t → Path (loose x) (loose y) t
path_loose path_name = path_name
path_loose (path_dot p) = path_dot (path_loose p)

mutual
  exp_loose : {d n : ℕ} {x y : List Sign} {t : Tree} → Exp d n x y t → Exp d n (loose x) (loose y) t
  exp_loose (constant c) = constant c
  exp_loose vararg = vararg
  exp_loose (prefix p) = prefix (prefix_loose p)
  exp_loose (table a) = table (table_loose a)
  exp_loose (function r b) = function tt (body_loose b)
  exp_loose (unary u l r a) = unary u l tt (exp_loose a)
  exp_loose (binary a o l r b) = binary (exp_loose a) o l tt (exp_loose b)

  prefix_loose : {d : ℕ} {x y : List Sign} {t : Tree} → Prefix d x y t → Prefix d (loose x) (loose y) t
  prefix_loose name = name
  prefix_loose (paren r a) = paren tt (exp_loose a)
  prefix_loose (dot p) = dot (prefix_loose p)
  prefix_loose (index p r a) = index (prefix_loose p) tt (exp_loose a)
  prefix_loose (call p a) = call (prefix_loose p) (args_loose a)
  prefix_loose (method p a) = method (prefix_loose p) (args_loose a)

  args_loose : {d : ℕ} {x y : List Sign} {ts : Trees} → Args d x y ts → Args d (loose x) (loose y) ts
  args_loose (no_args r) = no_args tt
  args_loose (some_args r es) = some_args tt (exps_loose es)
  args_loose (table_arg a) = table_arg (table_loose a)
  args_loose text_arg = text_arg

  commas_loose : {d : ℕ} {x y : List Sign} {ts : Trees} → Commas d x y ts → Commas d (loose x) (loose y) ts
  commas_loose no_commas = no_commas
  commas_loose (commas cs a) = commas (commas_loose cs) (exp_loose a)

  exps_loose : {d : ℕ} {x y : List Sign} {ts : Trees} {o : Bool} → Exps d x y ts o → Exps d (loose x) (loose y) ts o
  exps_loose (exps cs a) = exps (commas_loose cs) (exp_loose a)

  table_loose : {d : ℕ} {x y : List Sign} {t : Tree} → Table d x y t → Table d (loose x) (loose y) t
  table_loose (braces r f) = braces tt (list_loose f)

  list_loose : {d : ℕ} {x y : List Sign} {fs : Fields} → FieldList d x y fs → FieldList d (loose x) (loose y) fs
  list_loose (separated s) = separated (separated_loose s)
  list_loose (and_last s f) = and_last (separated_loose s) (field_loose f)

  separated_loose : {d : ℕ} {x y : List Sign} {fs : Fields} → Separated d x y fs → Separated d (loose x) (loose y) fs
  separated_loose no_fields = no_fields
  separated_loose (fields s f h) = fields (separated_loose s) (field_loose f) h

  field_loose : {d : ℕ} {x y : List Sign} {fs gs : Fields} → Field d x y fs gs → Field d (loose x) (loose y) fs gs
  field_loose (item_field a) = item_field (exp_loose a)
  field_loose (named_field a) = named_field (exp_loose a)
  field_loose (keyed_field r a b) = keyed_field tt (exp_loose a) (exp_loose b)

  body_loose : {d l : ℕ} {given : List (List ℕ)} {x y : List Sign} {t : Tree} → Body d given l x y t → Body d given l (loose x) (loose y) t
  body_loose (body r ps b) = body tt (params_loose ps) (block_loose b)

  targets_loose : {d l : ℕ} {x y : List Sign} {ts : Trees} → Targets d l x y ts → Targets d l (loose x) (loose y) ts
  targets_loose (target p h) = target (prefix_loose p) h
  targets_loose (targets ts p h) = targets (targets_loose ts) (prefix_loose p) h

  stat_loose : {d : ℕ} {x y : List Sign} {t : Tree} {o : Bool} → Stat d x y t o → Stat d (loose x) (loose y) t o
  stat_loose (assign ts es) = assign (targets_loose ts) (exps_loose es)
  stat_loose (call_stat p h) = call_stat (prefix_loose p) h
  stat_loose label = label
  stat_loose break = break
  stat_loose goto = goto
  stat_loose (do_block r b) = do_block tt (block_loose b)
  stat_loose (while a r b) = while (exp_loose a) tt (block_loose b)
  stat_loose (repeat r b a) = repeat tt (block_loose b) (exp_loose a)
  stat_loose (if_end cs) = if_end (conds_loose cs)
  stat_loose (if_else cs r b) = if_else (conds_loose cs) tt (block_loose b)
  stat_loose (num_for a e r b) = num_for (exp_loose a) (exp_loose e) tt (block_loose b)
  stat_loose (num_for_step a e s r b) = num_for_step (exp_loose a) (exp_loose e) (exp_loose s) tt (block_loose b)
  stat_loose (gen_for n es r b) = gen_for (names_loose n) (exps_loose es) tt (block_loose b)
  stat_loose (named_function r p f) = named_function tt (path_loose p) (body_loose f)
  stat_loose (method_function r p f) = method_function tt (path_loose p) (body_loose f)
  stat_loose (local_function r f) = local_function tt (body_loose f)
  stat_loose (local n) = local (names_loose n)
  stat_loose (local_exps n es) = local_exps (names_loose n) (exps_loose es)

  conds_loose : {d l : ℕ} {x y : List Sign} {cs : Cases} → Conds d l x y cs → Conds d l (loose x) (loose y) cs
  conds_loose (first_cond a r b) = first_cond (exp_loose a) tt (block_loose b)
  conds_loose (next_cond cs a r b) = next_cond (conds_loose cs) (exp_loose a) tt (block_loose b)

  stats_loose : {d : ℕ} {x y : List Sign} {ts : Trees} {o : Bool} → Stats d x y ts o → Stats d (loose x) (loose y) ts o
  stats_loose no_stats = no_stats
  stats_loose (semicolon ss) = semicolon (stats_loose ss)
  stats_loose (stat {o = o} {y = y} ss h s) = stat (stats_loose ss) (apart_loose o y h) (stat_loose s)

  returned_loose : {d : ℕ} {x y : List Sign} {es : Trees} → Returned d x y es → Returned d (loose x) (loose y) es
  returned_loose returns_none = returns_none
  returned_loose returns_none_semicolon = returns_none_semicolon
  returned_loose (returns es) = returns (exps_loose es)
  returned_loose (returns_semicolon es) = returns_semicolon (exps_loose es)

  block_loose : {d : ℕ} {x y : List Sign} {t : Tree} → Block d x y t → Block d (loose x) (loose y) t
  block_loose (stats {d = d} {x = x} {y = y} {ts = ts} ss) = subst (λ l. Block d (loose x) (loose y) (tree.Block 0 l ts)) (line_loose x) (stats (stats_loose ss))
  block_loose (stats_return {d = d} {i = i} {x = x} {z = z} {ts = ts} {es = es} ss r) =
      subst (λ l. Block d (loose x) (loose z) (tree.Block 0 l (snoc ts (tree.Return 0 i.line es)))) (line_loose x) (stats_return (stats_loose ss) (returned_loose r))

loose-append : (x y : List Sign) → loose (x ++ y) ≡ loose x ++ loose y
loose-append [] y = refl
loose-append (sign m i ∷ x) y = ap (λ z. sign m (record { counted = false; line = i.line; slice = i.slice }) ∷ z) (loose-append x y)

-- A text is one with the same tree, and what begins one does so.
pub whole_loose : (x : List Sign) (t : Tree) → Whole x t → Whole (loose x) t
whole_loose x t (i, b) = (record { counted = false; line = i.line; slice = i.slice }, block_loose b)

pub starts_loose : (x : List Sign) → Starts x → Starts (loose x)
starts_loose x (more, t, w) = (loose more, t, subst (λ z. Whole z t) (loose-append x more) (whole_loose (x ++ more) t w))
