-- The grammar of Lua 5.2 (manual, section 9), as relations between lists of signs: x begins with such a part, and y is what
-- comes after it. Where d levels are open before the part, its tokens open at most 200.
use Rattle.std.specs.Prelude.{◌≡◌, ℕ, suc, ◌≤◌, Bool, true, false, List, [], ◌∷◌, ◌++◌, Some, codes}
use Rattle.lua_ast.specs.declared.node.Literal.{Literal}
use Rattle.lua_ast.specs.declared.node.UnOp.{UnOp}
use Rattle.lua_ast.specs.Tree as tree
use Rattle.lua_ast.specs.Tree.{Tree, Trees, none, snoc, Cases, no_case, case, absent, present, Fields, no_field, item, named, keyed, line_of}
use Rattle.lua_grammar.specs.Signs.{Terminal, Attributes, Sign, sign, line_at}
use Rattle.lua_grammar.specs.Kinds as kind
use Rattle.lua_grammar.specs.Values.{text_of, name_of}
use Rattle.lua_grammar.specs.Operators.{Operator, operator_of, unary_of, level, left_of, right_of, joined, constant_of}

-- That many levels may be open, where they are counted.
abbrev pub Room : ℕ → Bool → Type 0
Room d true = d ≤ 200
Room d false = Unit {0}

-- The rule on a parenthesis: after what ends in a prefix no statement begins with one, since it begins arguments there.
abbrev pub Apart : Bool → List Sign → Type 0
Apart true (sign kind.OpenParen _ ∷ _) = ⊥
Apart _ _ = Unit {0}

abbrev pub is_var : Tree → Bool
is_var (tree.Name _ _ _) = true
is_var (tree.Index _ _ _ _) = true
is_var _ = false

abbrev pub is_call : Tree → Bool
is_call (tree.Call _ _ _ _) = true
is_call (tree.Method _ _ _ _ _) = true
is_call _ = false

abbrev pub is_prefix : Tree → Bool
is_prefix (tree.Name _ _ _) = true
is_prefix (tree.Paren _ _ _) = true
is_prefix (tree.Index _ _ _ _) = true
is_prefix (tree.Call _ _ _ _) = true
is_prefix (tree.Method _ _ _ _ _) = true
is_prefix _ = false

-- An expression that ends in a prefix.
abbrev pub ends_open : Tree → Bool
ends_open (tree.Unary _ _ _ t) = ends_open t
ends_open (tree.Binary _ _ _ _ t) = ends_open t
ends_open (tree.Logic _ _ _ _ t) = ends_open t
ends_open t = is_prefix t

abbrev pub is_separator : Terminal → Bool
is_separator kind.Comma = true
is_separator kind.Semicolon = true
is_separator _ = false

-- The field of t that a name after a dot names.
abbrev pub field_of : Tree → Attributes → Tree
field_of t i = tree.Index 0 (line_of t) t (tree.Const 0 i.line (name_of i.slice))

unfoldable pub self_name : List ℕ
self_name = codes "self"

-- namelist
pub data Names : List Sign → List Sign → List (List ℕ) → Type 0 where
  one_name : {i : Attributes} {x : List Sign} → Names (sign kind.Name i ∷ x) x (i.slice ∷ [])
  more_names : {i j : Attributes} {x y : List Sign} {ns : List (List ℕ)} →
      Names x (sign kind.Comma i ∷ sign kind.Name j ∷ y) ns → Names x y (ns ++ j.slice ∷ [])

-- [namelist [',' '...'] | '...']; the flag says whether there is a '...'
pub data Params : List Sign → List Sign → List (List ℕ) → Bool → Type 0 where
  no_params : {x : List Sign} → Params x x [] false
  some_params : {x y : List Sign} {ns : List (List ℕ)} → Names x y ns → Params x y ns false
  params_and_more : {i j : Attributes} {x y : List Sign} {ns : List (List ℕ)} →
      Names x (sign kind.Comma i ∷ sign kind.Ellipsis j ∷ y) ns → Params x y ns true
  any_params : {i : Attributes} {x : List Sign} → Params (sign kind.Ellipsis i ∷ x) x [] true

-- Name {'.' Name}, which a named function begins with
pub data Path : List Sign → List Sign → Tree → Type 0 where
  path_name : {i : Attributes} {x : List Sign} → Path (sign kind.Name i ∷ x) x (tree.Name 0 i.line i.slice)
  path_dot : {i j : Attributes} {x y : List Sign} {t : Tree} → Path x (sign kind.Dot i ∷ sign kind.Name j ∷ y) t → Path x y (field_of t j)

mutual
  -- exp, of the level n or a higher one
  pub data Exp : (d n : ℕ) (x y : List Sign) → Tree → Type 0 where
    constant : {d n : ℕ} {m : Terminal} {i : Attributes} {v : Literal} {y : List Sign} →
        constant_of m i.slice ≡ Some v → Exp d n (sign m i ∷ y) y (tree.Const 0 i.line v)
    vararg : {d n : ℕ} {i : Attributes} {y : List Sign} → Exp d n (sign kind.Ellipsis i ∷ y) y (tree.Vararg 0 i.line)
    prefix : {d n : ℕ} {x y : List Sign} {t : Tree} → Prefix d x y t → Exp d n x y t
    table : {d n : ℕ} {x y : List Sign} {t : Tree} → Table d x y t → Exp d n x y t
    function : {d n : ℕ} {i : Attributes} {x y : List Sign} {t : Tree} →
        Room (suc d) i.counted → Body (suc d) [] i.line x y t → Exp d n (sign kind.Function i ∷ x) y t
    unary : {d n : ℕ} {m : Terminal} {i : Attributes} {op : UnOp} {x y : List Sign} {t : Tree} →
        unary_of m ≡ Some op → n ≤ 7 → Room (suc d) i.counted → Exp (suc d) 7 x y t →
        Exp d n (sign m i ∷ x) y (tree.Unary 0 i.line op t)
    binary : {d n : ℕ} {m : Terminal} {i : Attributes} {op : Operator} {x y z : List Sign} {l r : Tree} →
        Exp d (left_of op) x (sign m i ∷ y) l → operator_of m ≡ Some op → n ≤ level op → Room (suc d) i.counted →
        Exp (suc d) (right_of op) y z r → Exp d n x z (joined op l r)

  -- prefix: var, call, or an expression in parentheses
  pub data Prefix : (d : ℕ) (x y : List Sign) → Tree → Type 0 where
    name : {d : ℕ} {i : Attributes} {y : List Sign} → Prefix d (sign kind.Name i ∷ y) y (tree.Name 0 i.line i.slice)
    paren : {d : ℕ} {i j : Attributes} {x y : List Sign} {t : Tree} →
        Room (suc d) i.counted → Exp (suc d) 0 x (sign kind.CloseParen j ∷ y) t →
        Prefix d (sign kind.OpenParen i ∷ x) y (tree.Paren 0 i.line t)
    dot : {d : ℕ} {i j : Attributes} {x y : List Sign} {t : Tree} →
        Prefix d x (sign kind.Dot i ∷ sign kind.Name j ∷ y) t → Prefix d x y (field_of t j)
    index : {d : ℕ} {i j : Attributes} {x y z : List Sign} {t u : Tree} →
        Prefix d x (sign kind.OpenBracket i ∷ y) t → Room (suc d) i.counted → Exp (suc d) 0 y (sign kind.CloseBracket j ∷ z) u →
        Prefix d x z (tree.Index 0 (line_of t) t u)
    call : {d : ℕ} {x y z : List Sign} {t : Tree} {ts : Trees} →
        Prefix d x y t → Args d y z ts → Prefix d x z (tree.Call 0 (line_of t) t ts)
    method : {d : ℕ} {i j : Attributes} {x y z : List Sign} {t : Tree} {ts : Trees} →
        Prefix d x (sign kind.Colon i ∷ sign kind.Name j ∷ y) t → Args d y z ts →
        Prefix d x z (tree.Method 0 (line_of t) t j.slice ts)

  -- args
  pub data Args : (d : ℕ) (x y : List Sign) → Trees → Type 0 where
    no_args : {d : ℕ} {i j : Attributes} {y : List Sign} →
        Room (suc d) i.counted → Args d (sign kind.OpenParen i ∷ sign kind.CloseParen j ∷ y) y none
    some_args : {d : ℕ} {o : Bool} {i j : Attributes} {x y : List Sign} {ts : Trees} →
        Room (suc d) i.counted → Exps (suc d) x (sign kind.CloseParen j ∷ y) ts o → Args d (sign kind.OpenParen i ∷ x) y ts
    table_arg : {d : ℕ} {x y : List Sign} {t : Tree} → Table d x y t → Args d x y (snoc none t)
    text_arg : {d : ℕ} {i : Attributes} {y : List Sign} →
        Args d (sign kind.Text i ∷ y) y (snoc none (tree.Const 0 i.line (text_of i.slice)))

  -- {exp ','}
  pub data Commas : (d : ℕ) (x y : List Sign) → Trees → Type 0 where
    no_commas : {d : ℕ} {x : List Sign} → Commas d x x none
    commas : {d : ℕ} {i : Attributes} {x y z : List Sign} {ts : Trees} {t : Tree} →
        Commas d x y ts → Exp d 0 y (sign kind.Comma i ∷ z) t → Commas d x z (snoc ts t)

  -- explist; the flag says whether it ends in a prefix
  pub data Exps : (d : ℕ) (x y : List Sign) → Trees → Bool → Type 0 where
    exps : {d : ℕ} {x y z : List Sign} {ts : Trees} {t : Tree} →
        Commas d x y ts → Exp d 0 y z t → Exps d x z (snoc ts t) (ends_open t)

  -- table
  pub data Table : (d : ℕ) (x y : List Sign) → Tree → Type 0 where
    braces : {d : ℕ} {i j : Attributes} {x y : List Sign} {fs : Fields} →
        Room (suc d) i.counted → FieldList (suc d) x (sign kind.CloseBrace j ∷ y) fs →
        Table d (sign kind.OpenBrace i ∷ x) y (tree.Table 0 i.line fs)

  -- [field {sep field} [sep]]
  pub data FieldList : (d : ℕ) (x y : List Sign) → Fields → Type 0 where
    separated : {d : ℕ} {x y : List Sign} {fs : Fields} → Separated d x y fs → FieldList d x y fs
    and_last : {d : ℕ} {x y z : List Sign} {fs gs : Fields} → Separated d x y fs → Field d y z fs gs → FieldList d x z gs

  -- {field sep}
  pub data Separated : (d : ℕ) (x y : List Sign) → Fields → Type 0 where
    no_fields : {d : ℕ} {x : List Sign} → Separated d x x no_field
    fields : {d : ℕ} {m : Terminal} {i : Attributes} {x y z : List Sign} {fs gs : Fields} →
        Separated d x y fs → Field d y (sign m i ∷ z) fs gs → is_separator m ≡ true → Separated d x z gs

  -- field, with the fields before it and those with it
  pub data Field : (d : ℕ) (x y : List Sign) → Fields → Fields → Type 0 where
    item_field : {d : ℕ} {x y : List Sign} {fs : Fields} {t : Tree} → Exp d 0 x y t → Field d x y fs (item fs t)
    named_field : {d : ℕ} {i j : Attributes} {x y : List Sign} {fs : Fields} {t : Tree} →
        Exp d 0 x y t → Field d (sign kind.Name i ∷ sign kind.Assign j ∷ x) y fs (named fs i.slice t)
    keyed_field : {d : ℕ} {i j l : Attributes} {x y z : List Sign} {fs : Fields} {k t : Tree} →
        Room (suc d) i.counted → Exp (suc d) 0 x (sign kind.CloseBracket j ∷ sign kind.Assign l ∷ y) k → Exp d 0 y z t →
        Field d (sign kind.OpenBracket i ∷ x) z fs (keyed fs k t)

  -- body: the parameters, of which some may be given, and the block of a function that begins on a line
  pub data Body : (d : ℕ) (given : List (List ℕ)) (line : ℕ) (x y : List Sign) → Tree → Type 0 where
    body : {d line : ℕ} {given ns : List (List ℕ)} {more : Bool} {i j l : Attributes} {x y z : List Sign} {b : Tree} →
        Room (suc d) i.counted → Params x (sign kind.CloseParen j ∷ y) ns more → Block d y (sign kind.End l ∷ z) b →
        Body d given line (sign kind.OpenParen i ∷ x) z (tree.Function 0 line (given ++ ns) more b)

  -- varlist, with the line of its first token
  pub data Targets : (d line : ℕ) (x y : List Sign) → Trees → Type 0 where
    target : {d : ℕ} {x y : List Sign} {t : Tree} → Prefix d x y t → is_var t ≡ true → Targets d (line_of t) x y (snoc none t)
    targets : {d line : ℕ} {i : Attributes} {x y z : List Sign} {ts : Trees} {t : Tree} →
        Targets d line x (sign kind.Comma i ∷ y) ts → Prefix d y z t → is_var t ≡ true → Targets d line x z (snoc ts t)

  -- stat, but for ';'; the flag says whether it ends in a prefix
  pub data Stat : (d : ℕ) (x y : List Sign) → Tree → Bool → Type 0 where
    assign : {d line : ℕ} {o : Bool} {i : Attributes} {x y z : List Sign} {vs ts : Trees} →
        Targets d line x (sign kind.Assign i ∷ y) vs → Exps d y z ts o → Stat d x z (tree.Assign 0 line vs ts) o
    call_stat : {d : ℕ} {x y : List Sign} {t : Tree} →
        Prefix d x y t → is_call t ≡ true → Stat d x y (tree.CallStat 0 (line_of t) t) true
    label : {d : ℕ} {i j l : Attributes} {x : List Sign} →
        Stat d (sign kind.DoubleColon i ∷ sign kind.Name j ∷ sign kind.DoubleColon l ∷ x) x (tree.Label 0 i.line j.slice) false
    break : {d : ℕ} {i : Attributes} {x : List Sign} → Stat d (sign kind.Break i ∷ x) x (tree.Break 0 i.line) false
    goto : {d : ℕ} {i j : Attributes} {x : List Sign} →
        Stat d (sign kind.Goto i ∷ sign kind.Name j ∷ x) x (tree.Goto 0 i.line j.slice) false
    do_block : {d : ℕ} {i j : Attributes} {x y : List Sign} {b : Tree} →
        Room (suc d) i.counted → Block (suc d) x (sign kind.End j ∷ y) b → Stat d (sign kind.Do i ∷ x) y (tree.Do 0 i.line b) false
    while : {d : ℕ} {i j l : Attributes} {x y z : List Sign} {t b : Tree} →
        Exp d 0 x (sign kind.Do j ∷ y) t → Room (suc d) j.counted → Block (suc d) y (sign kind.End l ∷ z) b →
        Stat d (sign kind.While i ∷ x) z (tree.While 0 i.line t b) false
    repeat : {d : ℕ} {i j : Attributes} {x y z : List Sign} {b t : Tree} →
        Room (suc d) i.counted → Block (suc d) x (sign kind.Until j ∷ y) b → Exp d 0 y z t →
        Stat d (sign kind.Repeat i ∷ x) z (tree.Repeat 0 i.line b t) (ends_open t)
    if_end : {d line : ℕ} {i : Attributes} {x y : List Sign} {cs : Cases} →
        Conds d line x (sign kind.End i ∷ y) cs → Stat d x y (tree.If 0 line cs absent) false
    if_else : {d line : ℕ} {i j : Attributes} {x y z : List Sign} {cs : Cases} {b : Tree} →
        Conds d line x (sign kind.Else i ∷ y) cs → Room (suc d) i.counted → Block (suc d) y (sign kind.End j ∷ z) b →
        Stat d x z (tree.If 0 line cs (present b)) false
    num_for : {d : ℕ} {i j l m n o : Attributes} {x y z u : List Sign} {a e b : Tree} →
        Exp d 0 x (sign kind.Comma m ∷ y) a → Exp d 0 y (sign kind.Do n ∷ z) e → Room (suc d) n.counted →
        Block (suc d) z (sign kind.End o ∷ u) b →
        Stat d (sign kind.For i ∷ sign kind.Name j ∷ sign kind.Assign l ∷ x) u (tree.NumFor 0 i.line j.slice a e absent b) false
    num_for_step : {d : ℕ} {i j l m n o p : Attributes} {x y z u v : List Sign} {a e s b : Tree} →
        Exp d 0 x (sign kind.Comma m ∷ y) a → Exp d 0 y (sign kind.Comma n ∷ z) e → Exp d 0 z (sign kind.Do o ∷ u) s →
        Room (suc d) o.counted → Block (suc d) u (sign kind.End p ∷ v) b →
        Stat d (sign kind.For i ∷ sign kind.Name j ∷ sign kind.Assign l ∷ x) v (tree.NumFor 0 i.line j.slice a e (present s) b) false
    gen_for : {d : ℕ} {o : Bool} {i j l m : Attributes} {x y z u : List Sign} {ns : List (List ℕ)} {ts : Trees} {b : Tree} →
        Names x (sign kind.In j ∷ y) ns → Exps d y (sign kind.Do l ∷ z) ts o → Room (suc d) l.counted →
        Block (suc d) z (sign kind.End m ∷ u) b → Stat d (sign kind.For i ∷ x) u (tree.GenFor 0 i.line ns ts b) false
    named_function : {d : ℕ} {i : Attributes} {x y z : List Sign} {t f : Tree} →
        Room (suc d) i.counted → Path x y t → Body (suc d) [] i.line y z f →
        Stat d (sign kind.Function i ∷ x) z (tree.Assign 0 i.line (snoc none t) (snoc none f)) false
    method_function : {d : ℕ} {i j l : Attributes} {x y z : List Sign} {t f : Tree} →
        Room (suc d) i.counted → Path x (sign kind.Colon j ∷ sign kind.Name l ∷ y) t → Body (suc d) (self_name ∷ []) i.line y z f →
        Stat d (sign kind.Function i ∷ x) z (tree.Assign 0 i.line (snoc none (field_of t l)) (snoc none f)) false
    local_function : {d : ℕ} {i j l : Attributes} {x y : List Sign} {f : Tree} →
        Room (suc d) j.counted → Body (suc d) [] j.line x y f →
        Stat d (sign kind.Local i ∷ sign kind.Function j ∷ sign kind.Name l ∷ x) y (tree.LocalFunction 0 i.line l.slice f) false
    local : {d : ℕ} {i : Attributes} {x y : List Sign} {ns : List (List ℕ)} →
        Names x y ns → Stat d (sign kind.Local i ∷ x) y (tree.Local 0 i.line ns none) false
    local_exps : {d : ℕ} {o : Bool} {i j : Attributes} {x y z : List Sign} {ns : List (List ℕ)} {ts : Trees} →
        Names x (sign kind.Assign j ∷ y) ns → Exps d y z ts o → Stat d (sign kind.Local i ∷ x) z (tree.Local 0 i.line ns ts) o

  -- if exp then block {elseif exp then block}
  pub data Conds : (d line : ℕ) (x y : List Sign) → Cases → Type 0 where
    first_cond : {d : ℕ} {i j : Attributes} {x y z : List Sign} {t b : Tree} →
        Exp d 0 x (sign kind.Then j ∷ y) t → Room (suc d) j.counted → Block (suc d) y z b →
        Conds d i.line (sign kind.If i ∷ x) z (case no_case t b)
    next_cond : {d line : ℕ} {i j : Attributes} {x y z u : List Sign} {cs : Cases} {t b : Tree} →
        Conds d line x (sign kind.Elseif i ∷ y) cs → Exp d 0 y (sign kind.Then j ∷ z) t → Room (suc d) j.counted →
        Block (suc d) z u b → Conds d line x u (case cs t b)

  -- {stat}; the flag says whether it ends in a prefix
  pub data Stats : (d : ℕ) (x y : List Sign) → Trees → Bool → Type 0 where
    no_stats : {d : ℕ} {x : List Sign} → Stats d x x none false
    semicolon : {d : ℕ} {o : Bool} {i : Attributes} {x y : List Sign} {ts : Trees} →
        Stats d x (sign kind.Semicolon i ∷ y) ts o → Stats d x y ts false
    stat : {d : ℕ} {o p : Bool} {x y z : List Sign} {ts : Trees} {t : Tree} →
        Stats d x y ts o → Apart o y → Stat d y z t p → Stats d x z (snoc ts t) p

  -- [explist] [';']
  pub data Returned : (d : ℕ) (x y : List Sign) → Trees → Type 0 where
    returns_none : {d : ℕ} {x : List Sign} → Returned d x x none
    returns_none_semicolon : {d : ℕ} {i : Attributes} {x : List Sign} → Returned d (sign kind.Semicolon i ∷ x) x none
    returns : {d : ℕ} {o : Bool} {x y : List Sign} {ts : Trees} → Exps d x y ts o → Returned d x y ts
    returns_semicolon : {d : ℕ} {o : Bool} {i : Attributes} {x y : List Sign} {ts : Trees} →
        Exps d x (sign kind.Semicolon i ∷ y) ts o → Returned d x y ts

  -- block. Its line is that of its first token, or of the one after it where it has none.
  pub data Block : (d : ℕ) (x y : List Sign) → Tree → Type 0 where
    stats : {d : ℕ} {o : Bool} {x y : List Sign} {ts : Trees} → Stats d x y ts o → Block d x y (tree.Block 0 (line_at x) ts)
    stats_return : {d : ℕ} {o : Bool} {i : Attributes} {x y z : List Sign} {ts es : Trees} →
        Stats d x (sign kind.Return i ∷ y) ts o → Returned d y z es →
        Block d x z (tree.Block 0 (line_at x) (snoc ts (tree.Return 0 i.line es)))
