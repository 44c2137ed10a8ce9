-- Precedences, and how the automaton goes on from an expression.
use Rattle.std.specs.Prelude.{◌≡◌, ℕ, suc, ◌+◌, ◌<◌, ◌≤◌, Bool, true, false, ◌&&◌, nat_le, cond, List, [], ◌∷◌, Option, Some, None, refl}
use Rattle.std.proofs.Common.{◌∙◌, ap, subst, arith, le-leb, inl, inr, ◌⊎◌}
use Rattle.std.proofs.lemmas.Bool.{lt-leb}
use Rattle.lua_ast.specs.declared.node.Literal.{Literal}
use Rattle.lua_ast.specs.declared.node.UnOp.{UnOp}
use Rattle.lua_ast.specs.declared.node.BinOp.TheVariants as bin_op
use Rattle.lua_ast.specs.declared.node.LogicOp.TheVariants as logic_op
use Rattle.lua_ast.specs.Tree as tree
use Rattle.lua_ast.specs.Tree.{Tree, line_of}
use Rattle.lua_grammar.specs.Kinds as kind
use Rattle.lua_grammar.specs.Signs.{Terminal, Attributes, Sign, sign}
use Rattle.lua_grammar.specs.Operators.{Operator, value, logic, operator_of, unary_of, level, left_of, right_of, joined, constant_of}
use Rattle.lua_grammar.specs.Grammar.{Room, is_prefix, ends_open, Exp, constant, vararg, prefix, table, function, unary, binary, Prefix, name, paren, dot, index, call, method, Table, braces, Body, body}
use Rattle.lua_grammar.specs.Pushdown.{Frame, InUnary, InBinary, State, Need, Have, depth, level_of, room, opened, begin_unary, begin_by, begin, operator, suffix, rest, steps}

abbrev pub Shape : ℕ → ℕ → ℕ → Type 0
Shape n l r = (((1 ≤ n) × (n ≤ 3) × (l ≡ n) × (r ≡ n + 1)) ⊎ ((5 ≤ n) × (n ≤ 6) × (l ≡ n) × (r ≡ n + 1))) ⊎ (((n ≡ 4) × (l ≡ 5) × (r ≡ 4)) ⊎ ((n ≡ 8) × (l ≡ 9) × (r ≡ 7)))

shape : (op : Operator) → Shape (level op) (left_of op) (right_of op)
shape (logic logic_op.Or) = inl (inl (omega arith, omega arith, refl, refl))
shape (logic logic_op.And) = inl (inl (omega arith, omega arith, refl, refl))
shape (value bin_op.Concat) = inr (inl (refl, refl, refl))
shape (value bin_op.Add) = inl (inr (omega arith, omega arith, refl, refl))
shape (value bin_op.Sub) = inl (inr (omega arith, omega arith, refl, refl))
shape (value bin_op.Mul) = inl (inr (omega arith, omega arith, refl, refl))
shape (value bin_op.Div) = inl (inr (omega arith, omega arith, refl, refl))
shape (value bin_op.Mod) = inl (inr (omega arith, omega arith, refl, refl))
shape (value bin_op.Pow) = inr (inr (refl, refl, refl))
shape (value _) = inl (inl (omega arith, omega arith, refl, refl))

shapes : (n l r m k s : ℕ) → Shape n l r → Shape m k s → l ≤ m → (n < s) × (l ≤ s)
shapes n l r m k s a b h = (omega arith, omega arith)

pub record Sizes (n l r : ℕ) : Type 0 where
  pub above : n ≤ l
  pub most : l ≤ 9
  pub right : r ≤ 7
  pub low : l ≤ 7 → n < 7
  pub least : 0 < l

sizes : (n l r : ℕ) → Shape n l r → Sizes n l r
sizes n l r a = record { above = omega arith; most = omega arith; right = omega arith; low = λ h. omega arith; least = omega arith }

pub size_of : (op : Operator) → Sizes (level op) (left_of op) (right_of op)
size_of op = sizes (level op) (left_of op) (right_of op) (shape op)

pub sizes_of : (a b : Operator) → left_of a ≤ level b → (level a < right_of b) × (left_of a ≤ right_of b)
sizes_of a b h = shapes (level a) (left_of a) (right_of a) (level b) (left_of b) (right_of b) (shape a) (shape b) h

-- The tree of a binary operation.
pub joined_level : (op : Operator) (l r : Tree) → level_of (joined op l r) ≡ level op
joined_level (value op) l r = refl
joined_level (logic op) l r = refl

pub joined_open : (op : Operator) (l r : Tree) → ends_open (joined op l r) ≡ ends_open r
joined_open (value op) l r = refl
joined_open (logic op) l r = refl

pub joined_plain : (op : Operator) (l r : Tree) → is_prefix (joined op l r) ≡ false
joined_plain (value op) l r = refl
joined_plain (logic op) l r = refl

pub joined_line : (op : Operator) (l r : Tree) → line_of (joined op l r) ≡ line_of l
joined_line (value op) l r = refl
joined_line (logic op) l r = refl

-- What goes on a prefix.
abbrev pub is_suffix : Terminal → Bool
is_suffix kind.Dot = true
is_suffix kind.Colon = true
is_suffix kind.OpenBracket = true
is_suffix kind.OpenParen = true
is_suffix kind.OpenBrace = true
is_suffix kind.Text = true
is_suffix _ = false

abbrev pub FollowsBy : ℕ → Option Operator → Type 0
FollowsBy n None = Unit {0}
FollowsBy n (Some op) = left_of op ≤ n

-- May come after an expression of the level n, where b says whether it ends in a prefix.
abbrev pub FollowsTerminal : ℕ → Bool → Terminal → Type 0
FollowsTerminal n b m = FollowsBy n (operator_of m) × (b ≡ true → is_suffix m ≡ false)

abbrev pub Follows : ℕ → Bool → List Sign → Type 0
Follows n b [] = ⊥
Follows n b (sign m i ∷ y) = FollowsTerminal n b m

pub room_true : (d : ℕ) (c : Bool) → Room d c → room d c ≡ true
room_true d true h = le-leb d 200 h
room_true d false h = refl

pub opened_in : (d : ℕ) (k : List Frame) (i : Attributes) (s : State) → d ≡ depth k → Room (suc d) i.counted → opened k i s ≡ Some s
opened_in d k i s e r = ap (λ b. cond b (Some s) None) (room_true (suc (depth k)) i.counted (subst (λ d. Room (suc d) i.counted) e r))

-- A step over a token that opens a level.
pub open_step : (x : List Sign) (k : List Frame) (i : Attributes) (s : State) (d : ℕ) → d ≡ depth k → Room (suc d) i.counted → steps x (opened k i s) ≡ steps x (Some s)
open_step x k i s d e r = ap (steps x) (opened_in d k i s e r)

both : (a b : Bool) → a ≡ true → b ≡ true → (a && b) ≡ true
both true true h i = refl
both true false h i = i
both false b h i = h

pub if_true : (b : Bool) (s o : Option State) → b ≡ true → cond b s o ≡ s
if_true b s o e = ap (λ b. cond b s o) e

pub prefix_is : {d : ℕ} {x y : List Sign} {t : Tree} → Prefix d x y t → is_prefix t ≡ true
prefix_is name = refl
prefix_is (paren _ _) = refl
prefix_is (dot _) = refl
prefix_is (index _ _ _) = refl
prefix_is (call _ _) = refl
prefix_is (method _ _) = refl

pub prefix_open : (t : Tree) → is_prefix t ≡ true → ends_open t ≡ true
prefix_open (tree.Unary _ _ _ _) h = cc
prefix_open (tree.Binary _ _ _ _ _) h = cc
prefix_open (tree.Logic _ _ _ _ _) h = cc
prefix_open _ h = h

prefix_level : (t : Tree) → is_prefix t ≡ true → level_of t ≡ 9
prefix_level (tree.Unary _ _ _ _) h = cc
prefix_level (tree.Binary _ _ _ _ _) h = cc
prefix_level (tree.Logic _ _ _ _ _) h = cc
prefix_level _ h = refl

table_level : {d : ℕ} {x y : List Sign} {t : Tree} → Table d x y t → level_of t ≡ 9
table_level (braces _ _) = refl

body_level : {d line : ℕ} {given : List (List ℕ)} {x y : List Sign} {t : Tree} → Body d given line x y t → level_of t ≡ 9
body_level (body _ _ _) = refl

pub level_ok : {d n : ℕ} {x y : List Sign} {t : Tree} → Exp d n x y t → n ≤ 9 → n ≤ level_of t
level_ok (constant _) h = h
level_ok vararg h = h
level_ok (prefix {t = t} p) h = omega (arith, prefix_level t (prefix_is p))
level_ok (table a) h = omega (arith, table_level a)
level_ok (function _ b) h = omega (arith, body_level b)
level_ok (unary _ l _ _) h = l
level_ok (binary {op = op} {l = l} {r = r} _ _ i _ _) h = omega (arith, joined_level op l r)

leave_by : (b c : Bool) (s o : Option State) → b ≡ false → cond (b && c) s o ≡ o
leave_by false c s o h = refl
leave_by true c s o h = cc

leave_operator : (q : ℕ) (t : Tree) (k : List Frame) (i : Attributes) (o : Option Operator) (n : ℕ) (otherwise : Option State) →
    FollowsBy n o → ((op : Operator) → left_of op ≤ n → level op < q) → operator q t k i o otherwise ≡ otherwise
leave_operator q t k i None n otherwise f h = refl
leave_operator q t k i (Some op) n otherwise f h = leave_by (nat_le q (level op)) (nat_le (left_of op) (level_of t)) _ otherwise (lt-leb q (level op) (h op f))

unless : (b : Bool) (s o : Option State) → (b ≡ true → true ≡ false) → cond b s o ≡ o
unless false s o h = refl
unless true s o h = let e = h refl in cc

-- Where neither a suffix nor an operator of the level goes on.
pub leave : (q : ℕ) (t : Tree) (k : List Frame) (m : Terminal) (i : Attributes) (n : ℕ) (otherwise : Option State) →
    FollowsBy n (operator_of m) → (is_prefix t ≡ true → is_suffix m ≡ false) → ((op : Operator) → left_of op ≤ n → level op < q) → suffix q t k m i otherwise ≡ otherwise
leave q t k kind.Dot i n otherwise f g h = unless (is_prefix t) _ otherwise g
leave q t k kind.Colon i n otherwise f g h = unless (is_prefix t) _ otherwise g
leave q t k kind.OpenBracket i n otherwise f g h = unless (is_prefix t) _ otherwise g
leave q t k kind.OpenParen i n otherwise f g h = unless (is_prefix t) _ otherwise g
leave q t k kind.OpenBrace i n otherwise f g h = unless (is_prefix t) _ otherwise g
leave q t k kind.Text i n otherwise f g h = unless (is_prefix t) _ otherwise g
leave q t k m i n otherwise f g h = leave_operator q t k i (operator_of m) n otherwise f h

pub operator_no_suffix : (m : Terminal) (op : Operator) → operator_of m ≡ Some op → is_suffix m ≡ false
operator_no_suffix kind.Dot op h = cc
operator_no_suffix kind.Colon op h = cc
operator_no_suffix kind.OpenBracket op h = cc
operator_no_suffix kind.OpenParen op h = cc
operator_no_suffix kind.OpenBrace op h = cc
operator_no_suffix kind.Text op h = cc
operator_no_suffix _ op h = refl

taken_by : (p : ℕ) (t : Tree) (k : List Frame) (i : Attributes) (o : Option Operator) (op : Operator) (otherwise : Option State) (d : ℕ) →
    o ≡ Some op → p ≤ level op → left_of op ≤ level_of t → d ≡ depth k → Room (suc d) i.counted →
    operator p t k i o otherwise ≡ Some (Need (right_of op) (InBinary p op t ∷ k))
taken_by p t k i o op otherwise d e h j l r =
    ap (λ (x : Option Operator). operator p t k i x otherwise) e
    ∙ ap (λ b. cond b (opened k i (Need (right_of op) (InBinary p op t ∷ k))) otherwise) (both _ _ (le-leb p (level op) h) (le-leb (left_of op) (level_of t) j))
    ∙ opened_in d k i (Need (right_of op) (InBinary p op t ∷ k)) l r

pub taken : (p : ℕ) (t : Tree) (k : List Frame) (m : Terminal) (i : Attributes) (op : Operator) (otherwise : Option State) (d : ℕ) →
    operator_of m ≡ Some op → p ≤ level op → left_of op ≤ level_of t → d ≡ depth k → Room (suc d) i.counted →
    suffix p t k m i otherwise ≡ Some (Need (right_of op) (InBinary p op t ∷ k))
taken p t k kind.Dot i op otherwise d e h j l r = cc
taken p t k kind.Colon i op otherwise d e h j l r = cc
taken p t k kind.OpenBracket i op otherwise d e h j l r = cc
taken p t k kind.OpenParen i op otherwise d e h j l r = cc
taken p t k kind.OpenBrace i op otherwise d e h j l r = cc
taken p t k kind.Text i op otherwise d e h j l r = cc
taken p t k m i op otherwise d e h j l r = taken_by p t k i (operator_of m) op otherwise d e h j l r

pub begun_constant : (p : ℕ) (k : List Frame) (m : Terminal) (i : Attributes) (v : Literal) → constant_of m i.slice ≡ Some v → begin p k m i ≡ Some (Have p (tree.Const 0 i.line v) k)
begun_constant p k kind.Ellipsis i v e = cc
begun_constant p k kind.Name i v e = cc
begun_constant p k kind.OpenParen i v e = cc
begun_constant p k kind.OpenBrace i v e = cc
begun_constant p k kind.Function i v e = cc
begun_constant p k m i v e = ap (λ c. begin_by p k i c (unary_of m)) e

begun_by : (p : ℕ) (k : List Frame) (m : Terminal) (i : Attributes) (op : UnOp) → unary_of m ≡ Some op → begin p k m i ≡ begin_unary p k i (Some op)
begun_by p k kind.Ellipsis i op e = cc
begun_by p k kind.Name i op e = cc
begun_by p k kind.OpenParen i op e = cc
begun_by p k kind.OpenBrace i op e = cc
begun_by p k kind.Function i op e = cc
begun_by p k kind.Nil i op e = cc
begun_by p k kind.False i op e = cc
begun_by p k kind.True i op e = cc
begun_by p k kind.Numeral i op e = cc
begun_by p k kind.Text i op e = cc
begun_by p k m i op e = ap (begin_unary p k i) e

pub begun_unary : (p : ℕ) (k : List Frame) (m : Terminal) (i : Attributes) (op : UnOp) (d : ℕ) → unary_of m ≡ Some op → p ≤ 7 → d ≡ depth k → Room (suc d) i.counted → begin p k m i ≡ Some (Need 7 (InUnary p i.line op ∷ k))
begun_unary p k m i op d e h j r =
    begun_by p k m i op e
    ∙ ap (λ b. cond b (opened k i (Need 7 (InUnary p i.line op ∷ k))) None) (le-leb p 7 h)
    ∙ opened_in d k i (Need 7 (InUnary p i.line op ∷ k)) j r

follows_by : (n m : ℕ) (o : Option Operator) → ((op : Operator) → left_of op ≤ n → left_of op ≤ m) → FollowsBy n o → FollowsBy m o
follows_by n m None h f = tt
follows_by n m (Some op) h f = h op f

pub follows_more : (n m : ℕ) (b : Bool) (y : List Sign) → ((op : Operator) → left_of op ≤ n → left_of op ≤ m) → Follows n b y → Follows m b y
follows_more n m b [] h f = f
follows_more n m b (sign s i ∷ y) h f = (follows_by n m (operator_of s) h f.0, f.1)

pub follows_less : (n m : ℕ) (b : Bool) → n ≤ m → (y : List Sign) → Follows n b y → Follows m b y
follows_less n m b h y f = follows_more n m b y (λ op i. omega arith) f

pub follows_right : (n : ℕ) (op : Operator) (b : Bool) → n ≤ level op → (y : List Sign) → Follows n b y → Follows (right_of op) b y
follows_right n op b h y f = follows_more n (right_of op) b y (λ a i. (sizes_of a op (omega arith)).1) f

pub pop_unary : (p line : ℕ) (op : UnOp) (k : List Frame) (t : Tree) (n : ℕ) (y : List Sign) → n ≤ 7 → Follows n (ends_open t) y →
    steps y (Some (Have 7 t (InUnary p line op ∷ k))) ≡ steps y (Some (Have p (tree.Unary 0 line op t) k))
pop_unary p line op k t n [] h f = absurd f
pop_unary p line op k t n (sign m i ∷ y) h f =
    ap (steps y) (leave 7 t (InUnary p line op ∷ k) m i n (rest (InUnary p line op ∷ k) t m i) f.0 (λ e. f.1 (prefix_open t e)) (λ op' j. (size_of op').low (omega arith)))

pub pop_binary : (p : ℕ) (op : Operator) (l : Tree) (k : List Frame) (t : Tree) (n : ℕ) (y : List Sign) → n ≤ level op → Follows n (ends_open t) y →
    steps y (Some (Have (right_of op) t (InBinary p op l ∷ k))) ≡ steps y (Some (Have p (joined op l t) k))
pop_binary p op l k t n [] h f = absurd f
pop_binary p op l k t n (sign m i ∷ y) h f =
    ap (steps y) (leave (right_of op) t (InBinary p op l ∷ k) m i n (rest (InBinary p op l ∷ k) t m i) f.0 (λ e. f.1 (prefix_open t e)) (λ op' j. (sizes_of op' op (omega arith)).0))
