-- What an expression begins with, and the states in which one may begin.
use Rattle.std.specs.Prelude.{◌≡◌, ℕ, Bool, true, false, List, [], ◌∷◌, Some, refl}
use Rattle.std.proofs.Common.{ap}
use Rattle.lua_ast.specs.declared.node.Literal.{Literal}
use Rattle.lua_ast.specs.declared.node.UnOp.{UnOp}
use Rattle.lua_ast.specs.Tree as tree
use Rattle.lua_ast.specs.Tree.{Tree, Trees, none, snoc, Fields, no_field}
use Rattle.lua_grammar.specs.Kinds as kind
use Rattle.lua_grammar.specs.Signs.{Terminal, Attributes, Sign, sign}
use Rattle.lua_grammar.specs.Operators.{Operator, operator_of, unary_of, constant_of}
use Rattle.lua_grammar.specs.Grammar.{is_prefix, Exp, constant, vararg, prefix, table, function, unary, binary, Prefix, name, paren, dot, index, call, method, Args, no_args, some_args, table_arg, text_arg, Commas, no_commas, commas, Table, braces}
use Rattle.lua_grammar.specs.Pushdown.{Begun, Callee, called, call_of, Purpose, as_argument, Frame, InParen, InArgs, InItem, InReturn, State, Need, Have, ArgsNext, ArgsOpen, FieldNext, FieldName, ReturnNext, depth, opened, text_args, begin, follow, args_open, field_name, return_next, step_from, steps}
use Rattle.lua_grammar.proofs.Basics.{if_true}

-- Begins an expression.
abbrev pub can_begin : Terminal → Bool
can_begin kind.Nil = true
can_begin kind.False = true
can_begin kind.True = true
can_begin kind.Numeral = true
can_begin kind.Text = true
can_begin kind.Ellipsis = true
can_begin kind.Name = true
can_begin kind.OpenParen = true
can_begin kind.OpenBrace = true
can_begin kind.Function = true
can_begin kind.Minus = true
can_begin kind.Not = true
can_begin kind.Hash = true
can_begin _ = false

abbrev pub is_assign : Terminal → Bool
is_assign kind.Assign = true
is_assign _ = false

abbrev pub NoAssign : List Sign → Type 0
NoAssign [] = ⊥
NoAssign (sign m i ∷ y) = is_assign m ≡ false

-- A name before an equals sign would be that of a field.
abbrev pub Unnamed : Terminal → List Sign → Type 0
Unnamed kind.Name x = NoAssign x
Unnamed _ x = Unit {0}

abbrev pub StartsExp : List Sign → Type 0
StartsExp [] = ⊥
StartsExp (sign m i ∷ x) = (can_begin m ≡ true) × Unnamed m x

constant_starts : (m : Terminal) (s : List ℕ) (v : Literal) (x : List Sign) → constant_of m s ≡ Some v → (can_begin m ≡ true) × Unnamed m x
constant_starts kind.Nil s v x e = (refl, tt)
constant_starts kind.False s v x e = (refl, tt)
constant_starts kind.True s v x e = (refl, tt)
constant_starts kind.Numeral s v x e = (refl, tt)
constant_starts kind.Text s v x e = (refl, tt)
constant_starts _ s v x e = cc

unary_starts : (m : Terminal) (op : UnOp) (x : List Sign) → unary_of m ≡ Some op → (can_begin m ≡ true) × Unnamed m x
unary_starts kind.Minus op x e = (refl, tt)
unary_starts kind.Not op x e = (refl, tt)
unary_starts kind.Hash op x e = (refl, tt)
unary_starts _ op x e = cc

operator_no_assign : (m : Terminal) (op : Operator) → operator_of m ≡ Some op → is_assign m ≡ false
operator_no_assign kind.Assign op h = cc
operator_no_assign _ op h = refl

table_starts : {d : ℕ} {x y : List Sign} {t : Tree} → Table d x y t → StartsExp x
table_starts (braces _ _) = (refl, tt)

args_no_assign : {d : ℕ} {x y : List Sign} {ts : Trees} → Args d x y ts → NoAssign x
args_no_assign (no_args _) = refl
args_no_assign (some_args _ _) = refl
args_no_assign (table_arg (braces _ _)) = refl
args_no_assign text_arg = refl

pub prefix_starts : {d : ℕ} {x y : List Sign} {t : Tree} → Prefix d x y t → NoAssign y → StartsExp x
prefix_starts name h = (refl, h)
prefix_starts (paren _ _) h = (refl, tt)
prefix_starts (dot p) h = prefix_starts p refl
prefix_starts (index p _ _) h = prefix_starts p refl
prefix_starts (call p a) h = prefix_starts p (args_no_assign a)
prefix_starts (method p _) h = prefix_starts p refl

pub exp_starts : {d n : ℕ} {x y : List Sign} {t : Tree} → Exp d n x y t → NoAssign y → StartsExp x
exp_starts (constant {m = m} {i = i} {v = v} {y = y} e) h = constant_starts m i.slice v y e
exp_starts vararg h = (refl, tt)
exp_starts (prefix p) h = prefix_starts p h
exp_starts (table a) h = table_starts a
exp_starts (function _ _) h = (refl, tt)
exp_starts (unary {m = m} {op = op} {x = x} e _ _ _) h = unary_starts m op x e
exp_starts (binary {m = m} {op = op} a e _ _ _) h = exp_starts a (operator_no_assign m op e)

pub commas_start : {d n : ℕ} {x y z : List Sign} {ts : Trees} {t : Tree} → Commas d x y ts → Exp d n y z t → NoAssign z → StartsExp x
commas_start no_commas e h = exp_starts e h
commas_start (commas cs a) e h = commas_start cs a refl

args_by : (p : ℕ) (c : Callee) (k : List Frame) (m : Terminal) (i : Attributes) → can_begin m ≡ true → args_open p c k m i ≡ begin 0 (InArgs p c none ∷ k) m i
args_by p c k kind.CloseParen i h = cc
args_by p c k _ i h = refl

pub args_start : (p : ℕ) (c : Callee) (k : List Frame) (x : List Sign) → StartsExp x → steps x (Some (ArgsOpen p c k)) ≡ steps x (Some (Need 0 (InArgs p c none ∷ k)))
args_start p c k [] h = absurd h
args_start p c k (sign m i ∷ x) h = ap (steps x) (args_by p c k m i h.0)

named_by : (u : Purpose) (l : ℕ) (fs : Fields) (nl : ℕ) (n : List ℕ) (k : List Frame) (m : Terminal) (i : Attributes) → is_assign m ≡ false →
    field_name u l fs nl n k m i ≡ follow (InItem u l fs ∷ k) 0 (tree.Name 0 nl n) m i
named_by u l fs nl n k kind.Assign i h = cc
named_by u l fs nl n k _ i h = refl

named_start : (u : Purpose) (l : ℕ) (fs : Fields) (nl : ℕ) (n : List ℕ) (k : List Frame) (x : List Sign) → NoAssign x →
    steps x (Some (FieldName u l fs nl n k)) ≡ steps x (Some (Have 0 (tree.Name 0 nl n) (InItem u l fs ∷ k)))
named_start u l fs nl n k [] h = absurd h
named_start u l fs nl n k (sign m i ∷ x) h = ap (steps x) (named_by u l fs nl n k m i h)

field_by : (u : Purpose) (l : ℕ) (fs : Fields) (k : List Frame) (m : Terminal) (i : Attributes) (x : List Sign) → can_begin m ≡ true → Unnamed m x →
    steps (sign m i ∷ x) (Some (FieldNext u l fs k)) ≡ steps (sign m i ∷ x) (Some (Need 0 (InItem u l fs ∷ k)))
field_by u l fs k kind.Name i x h n = named_start u l fs i.line i.slice k x n
field_by u l fs k kind.CloseBrace i x h n = cc
field_by u l fs k kind.OpenBracket i x h n = cc
field_by u l fs k _ i x h n = refl

pub field_start : (u : Purpose) (l : ℕ) (fs : Fields) (k : List Frame) (x : List Sign) → StartsExp x →
    steps x (Some (FieldNext u l fs k)) ≡ steps x (Some (Need 0 (InItem u l fs ∷ k)))
field_start u l fs k [] h = absurd h
field_start u l fs k (sign m i ∷ x) h = field_by u l fs k m i x h.0 h.1

return_by : (l : ℕ) (b : Begun) (k : List Frame) (m : Terminal) (i : Attributes) → can_begin m ≡ true → return_next l b k m i ≡ begin 0 (InReturn l none b ∷ k) m i
return_by l b k kind.Semicolon i h = cc
return_by l b k kind.End i h = cc
return_by l b k kind.Else i h = cc
return_by l b k kind.Elseif i h = cc
return_by l b k kind.Until i h = cc
return_by l b k kind.EndOfText i h = cc
return_by l b k _ i h = refl

pub return_start : (l : ℕ) (b : Begun) (k : List Frame) (x : List Sign) → StartsExp x → steps x (Some (ReturnNext l b k)) ≡ steps x (Some (Need 0 (InReturn l none b ∷ k)))
return_start l b k [] h = absurd h
return_start l b k (sign m i ∷ x) h = ap (steps x) (return_by l b k m i h.0)

-- A state in which a prefix may begin.
pub record BeginsPrefix (o : State) (p : ℕ) (k : List Frame) : Type 0 where
  pub at_name : (i : Attributes) → step_from o kind.Name i ≡ Some (Have p (tree.Name 0 i.line i.slice) k)
  pub at_open : (i : Attributes) → step_from o kind.OpenParen i ≡ opened k i (Need 0 (InParen p i.line ∷ k))

pub need_begins : (p : ℕ) (k : List Frame) → BeginsPrefix (Need p k) p k
need_begins p k = record { at_name = λ i. refl; at_open = λ i. refl }

-- A state in which arguments may begin.
pub record BeginsArgs (o : State) (p : ℕ) (c : Callee) (k : List Frame) : Type 0 where
  pub at_open : (i : Attributes) → step_from o kind.OpenParen i ≡ opened k i (ArgsOpen p c k)
  pub at_brace : (i : Attributes) → step_from o kind.OpenBrace i ≡ opened k i (FieldNext (as_argument p c) i.line no_field k)
  pub at_text : (i : Attributes) → step_from o kind.Text i ≡ Some (Have p (call_of c (text_args i)) k)

pub args_begins : (p : ℕ) (c : Callee) (k : List Frame) → BeginsArgs (ArgsNext p c k) p c k
args_begins p c k = record { at_open = λ i. refl; at_brace = λ i. refl; at_text = λ i. refl }

pub prefix_begins_args : (p : ℕ) (t : Tree) (k : List Frame) → is_prefix t ≡ true → BeginsArgs (Have p t k) p (called t) k
prefix_begins_args p t k e = record { at_open = λ i. if_true (is_prefix t) _ _ e; at_brace = λ i. if_true (is_prefix t) _ _ e; at_text = λ i. if_true (is_prefix t) _ _ e }

-- A frame of a list of expressions.
abbrev pub IsList : (Trees → Frame) → List Frame → ℕ → Type 0
IsList f k d = (ts : Trees) → (d ≡ depth (f ts ∷ k)) × ((t : Tree) (i : Attributes) → step_from (Have 0 t (f ts ∷ k)) kind.Comma i ≡ Some (Need 0 (f (snoc ts t) ∷ k)))
