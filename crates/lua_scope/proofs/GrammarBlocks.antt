-- In the tree of a text the body of each repeat is a block.
use Rattle.std.specs.Prelude.{ℕ, Bool, List}
use Rattle.std.proofs.Common.{sym, subst}
use Rattle.lua_lexer.specs.declared.token.Token.{Token}
use Rattle.lua_ast.specs.Tree as node
use Rattle.lua_ast.specs.Tree.{Tree, Trees, none, snoc, Cases, no_case, case, Maybe, absent, present, Fields, no_field, item, named, keyed}
use Rattle.lua_ast.specs.Decode.{ChunkNodes, tree, own_number}
use Rattle.lua_ast.specs.Numbers.{without_numbers, list_without, cases_without, maybe_without, fields_without}
use Rattle.lua_ast.proofs.LabelsOnly.{tree_without}
use Rattle.lua_grammar.specs.Signs.{Sign}
use Rattle.lua_grammar.specs.Operators.{Operator, value, logic, joined}
use Rattle.lua_grammar.specs.Grammar.{Path, path_name, path_dot, Exp, constant, vararg, prefix, table, function, unary, binary, Prefix, name, paren, dot, index, call, method, Args, no_args, some_args, table_arg, text_arg, Commas, no_commas, commas, Exps, exps, Table, braces, FieldList, separated, and_last, Separated, no_fields, fields, Field, item_field, named_field, keyed_field, Body, body, Targets, target, targets, Stat, assign, call_stat, label, break, goto, do_block, while, repeat, if_end, if_else, num_for, num_for_step, gen_for, named_function, method_function, local_function, local, local_exps, Conds, first_cond, next_cond, Stats, no_stats, semicolon, stat, Returned, returns_none, returns_none_semicolon, returns, returns_semicolon, Block, stats, stats_return}
use Rattle.lua_grammar.specs.Parses.{Parses}
use Rattle.lua_parser.specs.Parsing.{tree_of}
use Rattle.lua_scope.proofs.Bodies.{IsBlock, HasBlocks, HaveBlocks, CasesHaveBlocks, MaybeHasBlocks, FieldsHaveBlocks}

joined_has : (op : Operator) (l r : Tree) → HasBlocks l → HasBlocks r → HasBlocks (joined op l r)
joined_has (value op) l r g h = (g, h)
joined_has (logic op) l r g h = (g, h)

block_is : {d : ℕ} {x y : List Sign} {t : Tree} → Block d x y t → IsBlock t
block_is (stats _) = tt
block_is (stats_return _ _) = tt

path_has : {x y : List Sign} {t : Tree} → Path x y t → HasBlocks t
path_has path_name = tt
path_has (path_dot p) = (path_has p, tt)

mutual
  exp_has : {d n : ℕ} {x y : List Sign} {t : Tree} → Exp d n x y t → HasBlocks t
  exp_has (constant _) = tt
  exp_has vararg = tt
  exp_has (prefix p) = prefix_has p
  exp_has (table a) = table_has a
  exp_has (function _ b) = body_has b
  exp_has (unary _ _ _ a) = exp_has a
  exp_has (binary {op = op} {l = l} {r = r} a _ _ _ b) = joined_has op l r (exp_has a) (exp_has b)

  prefix_has : {d : ℕ} {x y : List Sign} {t : Tree} → Prefix d x y t → HasBlocks t
  prefix_has name = tt
  prefix_has (paren _ a) = exp_has a
  prefix_has (dot p) = (prefix_has p, tt)
  prefix_has (index p _ a) = (prefix_has p, exp_has a)
  prefix_has (call p a) = (prefix_has p, args_have a)
  prefix_has (method p a) = (prefix_has p, args_have a)

  args_have : {d : ℕ} {x y : List Sign} {ts : Trees} → Args d x y ts → HaveBlocks ts
  args_have (no_args _) = tt
  args_have (some_args _ es) = exps_have es
  args_have (table_arg a) = (tt, table_has a)
  args_have text_arg = (tt, tt)

  commas_have : {d : ℕ} {x y : List Sign} {ts : Trees} → Commas d x y ts → HaveBlocks ts
  commas_have no_commas = tt
  commas_have (commas cs a) = (commas_have cs, exp_has a)

  exps_have : {d : ℕ} {x y : List Sign} {ts : Trees} {o : Bool} → Exps d x y ts o → HaveBlocks ts
  exps_have (exps cs a) = (commas_have cs, exp_has a)

  table_has : {d : ℕ} {x y : List Sign} {t : Tree} → Table d x y t → HasBlocks t
  table_has (braces _ f) = list_have f

  list_have : {d : ℕ} {x y : List Sign} {fs : Fields} → FieldList d x y fs → FieldsHaveBlocks fs
  list_have (separated s) = separated_have s
  list_have (and_last s f) = field_has f (separated_have s)

  separated_have : {d : ℕ} {x y : List Sign} {fs : Fields} → Separated d x y fs → FieldsHaveBlocks fs
  separated_have no_fields = tt
  separated_have (fields s f _) = field_has f (separated_have s)

  field_has : {d : ℕ} {x y : List Sign} {fs gs : Fields} → Field d x y fs gs → FieldsHaveBlocks fs → FieldsHaveBlocks gs
  field_has (item_field a) h = (h, exp_has a)
  field_has (named_field a) h = (h, exp_has a)
  field_has (keyed_field _ a b) h = (h, exp_has a, exp_has b)

  body_has : {d l : ℕ} {given : List (List ℕ)} {x y : List Sign} {t : Tree} → Body d given l x y t → HasBlocks t
  body_has (body _ _ b) = block_has b

  targets_have : {d l : ℕ} {x y : List Sign} {ts : Trees} → Targets d l x y ts → HaveBlocks ts
  targets_have (target p _) = (tt, prefix_has p)
  targets_have (targets ts p _) = (targets_have ts, prefix_has p)

  stat_has : {d : ℕ} {x y : List Sign} {t : Tree} {o : Bool} → Stat d x y t o → HasBlocks t
  stat_has (assign ts es) = (targets_have ts, exps_have es)
  stat_has (call_stat p _) = prefix_has p
  stat_has label = tt
  stat_has break = tt
  stat_has goto = tt
  stat_has (do_block _ b) = block_has b
  stat_has (while a _ b) = (exp_has a, block_has b)
  stat_has (repeat _ b a) = (block_is b, block_has b, exp_has a)
  stat_has (if_end cs) = (conds_have cs, tt)
  stat_has (if_else cs _ b) = (conds_have cs, block_has b)
  stat_has (num_for a e _ b) = (exp_has a, exp_has e, tt, block_has b)
  stat_has (num_for_step a e s _ b) = (exp_has a, exp_has e, exp_has s, block_has b)
  stat_has (gen_for _ es _ b) = (exps_have es, block_has b)
  stat_has (named_function _ p f) = ((tt, path_has p), (tt, body_has f))
  stat_has (method_function _ p f) = ((tt, (path_has p, tt)), (tt, body_has f))
  stat_has (local_function _ f) = body_has f
  stat_has (local _) = tt
  stat_has (local_exps _ es) = exps_have es

  conds_have : {d l : ℕ} {x y : List Sign} {cs : Cases} → Conds d l x y cs → CasesHaveBlocks cs
  conds_have (first_cond a _ b) = (tt, exp_has a, block_has b)
  conds_have (next_cond cs a _ b) = (conds_have cs, exp_has a, block_has b)

  stats_have : {d : ℕ} {x y : List Sign} {ts : Trees} {o : Bool} → Stats d x y ts o → HaveBlocks ts
  stats_have no_stats = tt
  stats_have (semicolon ss) = stats_have ss
  stats_have (stat ss _ s) = (stats_have ss, stat_has s)

  returned_have : {d : ℕ} {x y : List Sign} {es : Trees} → Returned d x y es → HaveBlocks es
  returned_have returns_none = tt
  returned_have returns_none_semicolon = tt
  returned_have (returns es) = exps_have es
  returned_have (returns_semicolon es) = exps_have es

  block_has : {d : ℕ} {x y : List Sign} {t : Tree} → Block d x y t → HasBlocks t
  block_has (stats ss) = stats_have ss
  block_has (stats_return ss r) = (stats_have ss, returned_have r)

text_has : (text : List ℕ) (ts : List Token) (t : Tree) → Parses text ts t → HasBlocks t
text_has text ts t (_, b) = block_has b

-- ---- numbers

numbered_is : (t : Tree) → IsBlock (without_numbers t) → IsBlock t
numbered_is (node.Block _ _ _) h = tt
numbered_is _ h = h

mutual
  numbered_has : (t : Tree) → HasBlocks (without_numbers t) → HasBlocks t
  numbered_has (node.Block _ _ ss) h = numbered_have ss h
  numbered_has (node.Local _ _ _ es) h = numbered_have es h
  numbered_has (node.Assign _ _ ts es) (g, h) = (numbered_have ts g, numbered_have es h)
  numbered_has (node.CallStat _ _ t) h = numbered_has t h
  numbered_has (node.Do _ _ b) h = numbered_has b h
  numbered_has (node.While _ _ t b) (g, h) = (numbered_has t g, numbered_has b h)
  numbered_has (node.Repeat _ _ b t) (is, g, h) = (numbered_is b is, numbered_has b g, numbered_has t h)
  numbered_has (node.If _ _ cs o) (g, h) = (numbered_cases cs g, numbered_maybe o h)
  numbered_has (node.NumFor _ _ _ a e s b) (f, g, h, k) = (numbered_has a f, numbered_has e g, numbered_maybe s h, numbered_has b k)
  numbered_has (node.GenFor _ _ _ es b) (g, h) = (numbered_have es g, numbered_has b h)
  numbered_has (node.LocalFunction _ _ _ f) h = numbered_has f h
  numbered_has (node.Return _ _ es) h = numbered_have es h
  numbered_has (node.Break _ _) h = tt
  numbered_has (node.Goto _ _ _) h = tt
  numbered_has (node.Label _ _ _) h = tt
  numbered_has (node.Const _ _ _) h = tt
  numbered_has (node.Vararg _ _) h = tt
  numbered_has (node.Function _ _ _ _ b) h = numbered_has b h
  numbered_has (node.Name _ _ _) h = tt
  numbered_has (node.Index _ _ t k) (g, h) = (numbered_has t g, numbered_has k h)
  numbered_has (node.Call _ _ t ts) (g, h) = (numbered_has t g, numbered_have ts h)
  numbered_has (node.Method _ _ t _ ts) (g, h) = (numbered_has t g, numbered_have ts h)
  numbered_has (node.Binary _ _ _ l r) (g, h) = (numbered_has l g, numbered_has r h)
  numbered_has (node.Logic _ _ _ l r) (g, h) = (numbered_has l g, numbered_has r h)
  numbered_has (node.Unary _ _ _ t) h = numbered_has t h
  numbered_has (node.Paren _ _ t) h = numbered_has t h
  numbered_has (node.Table _ _ fs) h = numbered_fields fs h
  numbered_has node.Missing h = tt

  numbered_have : (ts : Trees) → HaveBlocks (list_without ts) → HaveBlocks ts
  numbered_have none h = tt
  numbered_have (snoc ts t) (g, h) = (numbered_have ts g, numbered_has t h)

  numbered_cases : (cs : Cases) → CasesHaveBlocks (cases_without cs) → CasesHaveBlocks cs
  numbered_cases no_case h = tt
  numbered_cases (case cs t b) (f, g, h) = (numbered_cases cs f, numbered_has t g, numbered_has b h)

  numbered_maybe : (o : Maybe) → MaybeHasBlocks (maybe_without o) → MaybeHasBlocks o
  numbered_maybe absent h = tt
  numbered_maybe (present t) h = numbered_has t h

  numbered_fields : (fs : Fields) → FieldsHaveBlocks (fields_without fs) → FieldsHaveBlocks fs
  numbered_fields no_field h = tt
  numbered_fields (item fs t) (g, h) = (numbered_fields fs g, numbered_has t h)
  numbered_fields (named fs _ t) (g, h) = (numbered_fields fs g, numbered_has t h)
  numbered_fields (keyed fs k t) (f, g, h) = (numbered_fields fs f, numbered_has k g, numbered_has t h)

-- The tree of a chunk that a text parses to has it too, whose nodes have numbers.
pub numbered_blocks : (text : List ℕ) (tokens : List Token) (c : ChunkNodes) → Parses text tokens (tree_of c) → HasBlocks (tree own_number c.nodes c.root)
numbered_blocks text tokens c parses =
    numbered_has (tree own_number c.nodes c.root) (subst HasBlocks (sym (tree_without own_number c.nodes c.root)) (text_has text tokens (tree_of c) parses))
