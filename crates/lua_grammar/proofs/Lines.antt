-- The line of a node is that of its first token.
use Rattle.std.specs.Prelude.{◌≡◌, ℕ, Bool, List, refl}
use Rattle.std.proofs.Common.{◌∙◌}
use Rattle.lua_ast.specs.Tree.{Tree, Trees, Cases, line_of}
use Rattle.lua_grammar.specs.Signs.{Sign, line_at}
use Rattle.lua_grammar.specs.Grammar.{Exp, constant, vararg, prefix, table, function, unary, binary, Prefix, name, paren, dot, index, call, method, Table, braces, Body, body, Targets, target, targets, Stat, assign, call_stat, label, break, goto, do_block, while, repeat, if_end, if_else, num_for, num_for_step, gen_for, named_function, method_function, local_function, local, local_exps, Conds, first_cond, next_cond, Block, stats, stats_return}
use Rattle.lua_grammar.proofs.Basics.{joined_line}

table_line : {d : ℕ} {x y : List Sign} {t : Tree} → Table d x y t → line_of t ≡ line_at x
table_line (braces _ _) = refl

body_line : {d l : ℕ} {given : List (List ℕ)} {x y : List Sign} {t : Tree} → Body d given l x y t → line_of t ≡ l
body_line (body _ _ _) = refl

pub prefix_line : {d : ℕ} {x y : List Sign} {t : Tree} → Prefix d x y t → line_of t ≡ line_at x
prefix_line name = refl
prefix_line (paren _ _) = refl
prefix_line (dot p) = prefix_line p
prefix_line (index p _ _) = prefix_line p
prefix_line (call p _) = prefix_line p
prefix_line (method p _) = prefix_line p

pub exp_line : {d n : ℕ} {x y : List Sign} {t : Tree} → Exp d n x y t → line_of t ≡ line_at x
exp_line (constant _) = refl
exp_line vararg = refl
exp_line (prefix p) = prefix_line p
exp_line (table a) = table_line a
exp_line (function _ b) = body_line b
exp_line (unary _ _ _ _) = refl
exp_line (binary {op = op} {l = l} {r = r} a _ _ _ _) = joined_line op l r ∙ exp_line a

targets_line : {d l : ℕ} {x y : List Sign} {ts : Trees} → Targets d l x y ts → l ≡ line_at x
targets_line (target p _) = prefix_line p
targets_line (targets ts _ _) = targets_line ts

conds_line : {d l : ℕ} {x y : List Sign} {cs : Cases} → Conds d l x y cs → l ≡ line_at x
conds_line (first_cond _ _ _) = refl
conds_line (next_cond cs _ _ _) = conds_line cs

pub stat_line : {d : ℕ} {o : Bool} {x y : List Sign} {t : Tree} → Stat d x y t o → line_of t ≡ line_at x
stat_line (assign ts _) = targets_line ts
stat_line (call_stat p _) = prefix_line p
stat_line label = refl
stat_line break = refl
stat_line goto = refl
stat_line (do_block _ _) = refl
stat_line (while _ _ _) = refl
stat_line (repeat _ _ _) = refl
stat_line (if_end cs) = conds_line cs
stat_line (if_else cs _ _) = conds_line cs
stat_line (num_for _ _ _ _) = refl
stat_line (num_for_step _ _ _ _ _) = refl
stat_line (gen_for _ _ _ _) = refl
stat_line (named_function _ _ _) = refl
stat_line (method_function _ _ _) = refl
stat_line (local_function _ _) = refl
stat_line (local _) = refl
stat_line (local_exps _ _) = refl

pub block_line : {d : ℕ} {x y : List Sign} {t : Tree} → Block d x y t → line_of t ≡ line_at x
block_line (stats _) = refl
block_line (stats_return _ _) = refl
