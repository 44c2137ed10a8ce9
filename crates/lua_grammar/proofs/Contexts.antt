-- What stands before x in the whole w, where the automaton is in a state.
use Rattle.std.specs.Prelude.{◌≡◌, ℕ, suc, ◌≤◌, Bool, true, false, List, [], ◌∷◌, Some, refl}
use Rattle.std.proofs.Common.{arith, inl, inr, ◌⊎◌}
use Rattle.lua_ast.specs.declared.node.UnOp.{UnOp}
use Rattle.lua_ast.specs.Tree as tree
use Rattle.lua_ast.specs.Tree.{Tree, Trees, Cases, no_case, absent, present, Fields}
use Rattle.lua_grammar.specs.Kinds as kind
use Rattle.lua_grammar.specs.Signs.{Terminal, Attributes, Sign, sign, line_at}
use Rattle.lua_grammar.specs.Operators.{Operator, value, logic, operator_of, unary_of, level, left_of, right_of}
use Rattle.lua_grammar.specs.Grammar.{Room, Apart, is_prefix, ends_open, field_of, self_name, Names, Params, Path, Exp, constant, vararg, prefix, table, function, unary, binary, Prefix, call, method, Args, Commas, Exps, Separated, Body, body, Targets, Conds, Stats, Block}
use Rattle.lua_grammar.specs.Pushdown.{Begun, block_of, Callee, called, method_called, call_of, Purpose, as_value, as_argument, Head, anonymous, assigned, local_named, Frame, InParen, InUnary, InBinary, InIndex, InArgs, InItem, InNamed, InKey, InKeyed, InLocal, InStat, InTargets, InAssign, InReturn, InWhileTest, InIfTest, InUntil, InFirst, InLimit, InStep, InIterator, InDo, InWhile, InRepeat, InThen, InElse, InNumFor, InGenFor, InFunction, ForField, ForMethod, ForLabel, ForGoto, ForVariable, ForVariables, ForFunction, ForFunctionField, ForFunctionMethod, ForLocalFunction, ForLocal, State, Need, Have, NameNext, ArgsNext, ArgsOpen, FieldNext, FieldName, KeyEnd, BlockNext, StatNext, LabelEnd, LocalNext, LocalNames, LoopName, LoopNames, PathNext, BodyNext, ParamFirst, ParamNext, ParamNames, ParamsEnd, TargetNext, ReturnNext, BlockEnd, Done, depth, level_of}
use Rattle.lua_grammar.proofs.Basics.{size_of}

-- What is called, before its arguments.
pub data CalleeAt : (d : ℕ) (x y : List Sign) → Callee → Type 0 where
  called_at : {d : ℕ} {x y : List Sign} {t : Tree} → Prefix d x y t → CalleeAt d x y (called t)
  method_at : {d : ℕ} {i j : Attributes} {x y : List Sign} {t : Tree} →
      Prefix d x (sign kind.Colon i ∷ sign kind.Name j ∷ y) t → CalleeAt d x y (method_called t j.slice)

-- The tests of an if so far, with the block of each.
pub data Tests : (d line : ℕ) (x y : List Sign) → Cases → Type 0 where
  no_test : {d : ℕ} {i : Attributes} {x : List Sign} → Tests d i.line (sign kind.If i ∷ x) x no_case
  more_tests : {d l : ℕ} {i : Attributes} {x y : List Sign} {cs : Cases} → Conds d l x (sign kind.Elseif i ∷ y) cs → Tests d l x y cs

mutual
  -- An expression of the level p is to come.
  pub data Wants (w : List Sign) : List Frame → ℕ → List Sign → Type 0 where
    in_paren : {k : List Frame} {q : ℕ} {i : Attributes} {x : List Sign} →
        Wants w k q (sign kind.OpenParen i ∷ x) → Room (suc (depth k)) i.counted → Wants w (InParen q i.line ∷ k) 0 x
    in_unary : {k : List Frame} {q : ℕ} {m : Terminal} {i : Attributes} {op : UnOp} {x : List Sign} →
        Wants w k q (sign m i ∷ x) → unary_of m ≡ Some op → q ≤ 7 → Room (suc (depth k)) i.counted → Wants w (InUnary q i.line op ∷ k) 7 x
    in_binary : {k : List Frame} {q : ℕ} {m : Terminal} {i : Attributes} {op : Operator} {t : Tree} {x y : List Sign} →
        Wants w k q x → Exp (depth k) (left_of op) x (sign m i ∷ y) t → operator_of m ≡ Some op → q ≤ level op → Room (suc (depth k)) i.counted →
        Wants w (InBinary q op t ∷ k) (right_of op) y
    in_index : {k : List Frame} {q : ℕ} {i : Attributes} {t : Tree} {x y : List Sign} →
        Wants w k q x → Prefix (depth k) x (sign kind.OpenBracket i ∷ y) t → Room (suc (depth k)) i.counted → Wants w (InIndex q t ∷ k) 0 y
    in_args : {k : List Frame} {q : ℕ} {i : Attributes} {c : Callee} {es : Trees} {x y z : List Sign} →
        Wants w k q x → CalleeAt (depth k) x (sign kind.OpenParen i ∷ y) c → Room (suc (depth k)) i.counted → Commas (suc (depth k)) y z es →
        Wants w (InArgs q c es ∷ k) 0 z
    in_item : {k : List Frame} {u : Purpose} {l : ℕ} {fs : Fields} {x y : List Sign} →
        TableAt w k u l x → Separated (suc (depth k)) x y fs → Wants w (InItem u l fs ∷ k) 0 y
    in_named : {k : List Frame} {u : Purpose} {l : ℕ} {i j : Attributes} {fs : Fields} {x y : List Sign} →
        TableAt w k u l x → Separated (suc (depth k)) x (sign kind.Name i ∷ sign kind.Assign j ∷ y) fs → Wants w (InNamed u l fs i.slice ∷ k) 0 y
    in_key : {k : List Frame} {u : Purpose} {l : ℕ} {i : Attributes} {fs : Fields} {x y : List Sign} →
        TableAt w k u l x → Separated (suc (depth k)) x (sign kind.OpenBracket i ∷ y) fs → Room (suc (suc (depth k))) i.counted → Wants w (InKey u l fs ∷ k) 0 y
    in_keyed : {k : List Frame} {u : Purpose} {l : ℕ} {i j n : Attributes} {fs : Fields} {t : Tree} {x y z : List Sign} →
        TableAt w k u l x → Separated (suc (depth k)) x (sign kind.OpenBracket i ∷ y) fs → Room (suc (suc (depth k))) i.counted →
        Exp (suc (suc (depth k))) 0 y (sign kind.CloseBracket j ∷ sign kind.Assign n ∷ z) t → Wants w (InKeyed u l fs t ∷ k) 0 z
    in_local : {k : List Frame} {b : Begun} {o : Bool} {i j : Attributes} {ns : List (List ℕ)} {es : Trees} {x y z : List Sign} →
        At w k b o (sign kind.Local i ∷ x) → Names x (sign kind.Assign j ∷ y) ns → Commas (depth k) y z es → Wants w (InLocal i.line ns es b ∷ k) 0 z
    in_stat : {k : List Frame} {b : Begun} {o : Bool} {x : List Sign} → At w k b o x → Apart o x → Wants w (InStat b ∷ k) 10 x
    in_targets : {k : List Frame} {b : Begun} {o : Bool} {l : ℕ} {i : Attributes} {ts : Trees} {x y : List Sign} →
        At w k b o x → Apart o x → Targets (depth k) l x (sign kind.Comma i ∷ y) ts → Wants w (InTargets l ts b ∷ k) 10 y
    in_assign : {k : List Frame} {b : Begun} {o : Bool} {l : ℕ} {i : Attributes} {ts es : Trees} {x y z : List Sign} →
        At w k b o x → Apart o x → Targets (depth k) l x (sign kind.Assign i ∷ y) ts → Commas (depth k) y z es → Wants w (InAssign l ts es b ∷ k) 0 z
    in_return : {k : List Frame} {b : Begun} {o : Bool} {i : Attributes} {es : Trees} {x y : List Sign} →
        At w k b o (sign kind.Return i ∷ x) → Commas (depth k) x y es → Wants w (InReturn i.line es b ∷ k) 0 y
    in_while_test : {k : List Frame} {b : Begun} {o : Bool} {i : Attributes} {x : List Sign} → At w k b o (sign kind.While i ∷ x) → Wants w (InWhileTest i.line b ∷ k) 0 x
    in_if_test : {k : List Frame} {b : Begun} {o : Bool} {l : ℕ} {cs : Cases} {x y : List Sign} →
        At w k b o x → Apart o x → Tests (depth k) l x y cs → Wants w (InIfTest l cs b ∷ k) 0 y
    in_until : {k : List Frame} {b : Begun} {o : Bool} {i j : Attributes} {t : Tree} {x y : List Sign} →
        At w k b o (sign kind.Repeat i ∷ x) → Room (suc (depth k)) i.counted → Block (suc (depth k)) x (sign kind.Until j ∷ y) t → Wants w (InUntil i.line t b ∷ k) 0 y
    in_first : {k : List Frame} {b : Begun} {o : Bool} {i j l : Attributes} {x : List Sign} →
        At w k b o (sign kind.For i ∷ sign kind.Name j ∷ sign kind.Assign l ∷ x) → Wants w (InFirst i.line j.slice b ∷ k) 0 x
    in_limit : {k : List Frame} {b : Begun} {o : Bool} {i j l m : Attributes} {a : Tree} {x y : List Sign} →
        At w k b o (sign kind.For i ∷ sign kind.Name j ∷ sign kind.Assign l ∷ x) → Exp (depth k) 0 x (sign kind.Comma m ∷ y) a → Wants w (InLimit i.line j.slice a b ∷ k) 0 y
    in_step : {k : List Frame} {b : Begun} {o : Bool} {i j l m n : Attributes} {a e : Tree} {x y z : List Sign} →
        At w k b o (sign kind.For i ∷ sign kind.Name j ∷ sign kind.Assign l ∷ x) → Exp (depth k) 0 x (sign kind.Comma m ∷ y) a → Exp (depth k) 0 y (sign kind.Comma n ∷ z) e →
        Wants w (InStep i.line j.slice a e b ∷ k) 0 z
    in_iterator : {k : List Frame} {b : Begun} {o : Bool} {i j : Attributes} {ns : List (List ℕ)} {es : Trees} {x y z : List Sign} →
        At w k b o (sign kind.For i ∷ x) → Names x (sign kind.In j ∷ y) ns → Commas (depth k) y z es → Wants w (InIterator i.line ns es b ∷ k) 0 z

  -- The fields of a table are to come.
  pub data TableAt (w : List Sign) : List Frame → Purpose → ℕ → List Sign → Type 0 where
    table_value : {k : List Frame} {q : ℕ} {i : Attributes} {x : List Sign} →
        Wants w k q (sign kind.OpenBrace i ∷ x) → q ≤ 9 → Room (suc (depth k)) i.counted → TableAt w k (as_value q) i.line x
    table_argument : {k : List Frame} {q : ℕ} {i : Attributes} {c : Callee} {x y : List Sign} →
        Wants w k q x → CalleeAt (depth k) x (sign kind.OpenBrace i ∷ y) c → Room (suc (depth k)) i.counted → TableAt w k (as_argument q c) i.line y

  -- The parameters of a function are to come.
  pub data HeadAt (w : List Sign) : List Frame → Head → List Sign → Type 0 where
    head_anonymous : {k : List Frame} {q : ℕ} {i : Attributes} {x : List Sign} →
        Wants w k q (sign kind.Function i ∷ x) → q ≤ 9 → Room (suc (depth k)) i.counted → HeadAt w k (anonymous q i.line) x
    head_path : {k : List Frame} {b : Begun} {o : Bool} {i : Attributes} {t : Tree} {x y : List Sign} →
        At w k b o (sign kind.Function i ∷ x) → Room (suc (depth k)) i.counted → Path x y t → HeadAt w k (assigned i.line t [] b) y
    head_method : {k : List Frame} {b : Begun} {o : Bool} {i j l : Attributes} {t : Tree} {x y : List Sign} →
        At w k b o (sign kind.Function i ∷ x) → Room (suc (depth k)) i.counted → Path x (sign kind.Colon j ∷ sign kind.Name l ∷ y) t →
        HeadAt w k (assigned i.line (field_of t l) (self_name ∷ []) b) y
    head_local : {k : List Frame} {b : Begun} {o : Bool} {i j l : Attributes} {x : List Sign} →
        At w k b o (sign kind.Local i ∷ sign kind.Function j ∷ sign kind.Name l ∷ x) → Room (suc (depth k)) j.counted →
        HeadAt w k (local_named i.line j.line l.slice b) x

  -- A block is to come.
  pub data Opens (w : List Sign) : List Frame → List Sign → Type 0 where
    whole : Opens w [] w
    in_do : {k : List Frame} {b : Begun} {o : Bool} {i : Attributes} {x : List Sign} → At w k b o (sign kind.Do i ∷ x) → Room (suc (depth k)) i.counted → Opens w (InDo i.line b ∷ k) x
    in_while : {k : List Frame} {b : Begun} {o : Bool} {i j : Attributes} {t : Tree} {x y : List Sign} →
        At w k b o (sign kind.While i ∷ x) → Exp (depth k) 0 x (sign kind.Do j ∷ y) t → Room (suc (depth k)) j.counted → Opens w (InWhile i.line t b ∷ k) y
    in_repeat : {k : List Frame} {b : Begun} {o : Bool} {i : Attributes} {x : List Sign} → At w k b o (sign kind.Repeat i ∷ x) → Room (suc (depth k)) i.counted → Opens w (InRepeat i.line b ∷ k) x
    in_then : {k : List Frame} {b : Begun} {o : Bool} {l : ℕ} {i : Attributes} {cs : Cases} {t : Tree} {x y z : List Sign} →
        At w k b o x → Apart o x → Tests (depth k) l x y cs → Exp (depth k) 0 y (sign kind.Then i ∷ z) t → Room (suc (depth k)) i.counted → Opens w (InThen l cs t b ∷ k) z
    in_else : {k : List Frame} {b : Begun} {o : Bool} {l : ℕ} {i : Attributes} {cs : Cases} {x y : List Sign} →
        At w k b o x → Apart o x → Conds (depth k) l x (sign kind.Else i ∷ y) cs → Room (suc (depth k)) i.counted → Opens w (InElse l cs b ∷ k) y
    in_num_for : {k : List Frame} {b : Begun} {o : Bool} {i j l m n : Attributes} {a e : Tree} {x y z : List Sign} →
        At w k b o (sign kind.For i ∷ sign kind.Name j ∷ sign kind.Assign l ∷ x) → Exp (depth k) 0 x (sign kind.Comma m ∷ y) a → Exp (depth k) 0 y (sign kind.Do n ∷ z) e →
        Room (suc (depth k)) n.counted → Opens w (InNumFor i.line j.slice a e absent b ∷ k) z
    in_num_for_step : {k : List Frame} {b : Begun} {o : Bool} {i j l m n p : Attributes} {a e s : Tree} {x y z u : List Sign} →
        At w k b o (sign kind.For i ∷ sign kind.Name j ∷ sign kind.Assign l ∷ x) → Exp (depth k) 0 x (sign kind.Comma m ∷ y) a → Exp (depth k) 0 y (sign kind.Comma n ∷ z) e →
        Exp (depth k) 0 z (sign kind.Do p ∷ u) s → Room (suc (depth k)) p.counted → Opens w (InNumFor i.line j.slice a e (present s) b ∷ k) u
    in_gen_for : {k : List Frame} {b : Begun} {o p : Bool} {i j l : Attributes} {ns : List (List ℕ)} {ts : Trees} {x y z : List Sign} →
        At w k b o (sign kind.For i ∷ x) → Names x (sign kind.In j ∷ y) ns → Exps (depth k) y (sign kind.Do l ∷ z) ts p → Room (suc (depth k)) l.counted →
        Opens w (InGenFor i.line ns ts b ∷ k) z
    in_function : {k : List Frame} {h : Head} {i j : Attributes} {ns : List (List ℕ)} {more : Bool} {x y : List Sign} →
        HeadAt w k h (sign kind.OpenParen i ∷ x) → Room (suc (suc (depth k))) i.counted → Params x (sign kind.CloseParen j ∷ y) ns more → Opens w (InFunction h ns more ∷ k) y

  -- Of a block these statements stand before x.
  pub data At (w : List Sign) : List Frame → Begun → Bool → List Sign → Type 0 where
    at : {k : List Frame} {ss : Trees} {o : Bool} {y x : List Sign} →
        Opens w k y → Stats (depth k) y x ss o → At w k (record { line = line_at y; stats = ss }) o x

-- An expression that was read: a prefix, or of the level that its tree has.
abbrev pub Part : ℕ → ℕ → List Sign → List Sign → Tree → Type 0
Part d p b x t = Prefix d b x t ⊎ ((is_prefix t ≡ false) × Exp d (level_of t) b x t × (p ≤ level_of t))

-- The state stands for what was read of w before x.
pub data Sound (w : List Sign) : State → List Sign → Type 0 where
  stands_need : {p : ℕ} {k : List Frame} {x : List Sign} → Wants w k p x → p ≤ 7 → Sound w (Need p k) x
  stands_have : {p : ℕ} {t : Tree} {k : List Frame} {y x : List Sign} →
      Wants w k p y → Part (depth k) p y x t → (is_prefix t ≡ false → ends_open t ≡ false) → Sound w (Have p t k) x
  stands_field : {p : ℕ} {i : Attributes} {t : Tree} {k : List Frame} {y x : List Sign} → Wants w k p y → Prefix (depth k) y (sign kind.Dot i ∷ x) t → Sound w (NameNext (ForField p t) k) x
  stands_method : {p : ℕ} {i : Attributes} {t : Tree} {k : List Frame} {y x : List Sign} → Wants w k p y → Prefix (depth k) y (sign kind.Colon i ∷ x) t → Sound w (NameNext (ForMethod p t) k) x
  stands_label : {b : Begun} {o : Bool} {i : Attributes} {k : List Frame} {x : List Sign} → At w k b o (sign kind.DoubleColon i ∷ x) → Sound w (NameNext (ForLabel i.line b) k) x
  stands_goto : {b : Begun} {o : Bool} {i : Attributes} {k : List Frame} {x : List Sign} → At w k b o (sign kind.Goto i ∷ x) → Sound w (NameNext (ForGoto i.line b) k) x
  stands_variable : {b : Begun} {o : Bool} {i : Attributes} {k : List Frame} {x : List Sign} → At w k b o (sign kind.For i ∷ x) → Sound w (NameNext (ForVariable i.line b) k) x
  stands_variables : {b : Begun} {o : Bool} {i j : Attributes} {ns : List (List ℕ)} {k : List Frame} {y x : List Sign} →
      At w k b o (sign kind.For i ∷ y) → Names y (sign kind.Comma j ∷ x) ns → Sound w (NameNext (ForVariables i.line ns b) k) x
  stands_function : {b : Begun} {o : Bool} {i : Attributes} {k : List Frame} {x : List Sign} →
      At w k b o (sign kind.Function i ∷ x) → Room (suc (depth k)) i.counted → Sound w (NameNext (ForFunction i.line b) k) x
  stands_function_field : {b : Begun} {o : Bool} {i j : Attributes} {t : Tree} {k : List Frame} {y x : List Sign} →
      At w k b o (sign kind.Function i ∷ y) → Room (suc (depth k)) i.counted → Path y (sign kind.Dot j ∷ x) t → Sound w (NameNext (ForFunctionField i.line t b) k) x
  stands_function_method : {b : Begun} {o : Bool} {i j : Attributes} {t : Tree} {k : List Frame} {y x : List Sign} →
      At w k b o (sign kind.Function i ∷ y) → Room (suc (depth k)) i.counted → Path y (sign kind.Colon j ∷ x) t → Sound w (NameNext (ForFunctionMethod i.line t b) k) x
  stands_local_function : {b : Begun} {o : Bool} {i j : Attributes} {k : List Frame} {x : List Sign} →
      At w k b o (sign kind.Local i ∷ sign kind.Function j ∷ x) → Room (suc (depth k)) j.counted → Sound w (NameNext (ForLocalFunction i.line j.line b) k) x
  stands_local : {b : Begun} {o : Bool} {i j : Attributes} {ns : List (List ℕ)} {k : List Frame} {y x : List Sign} →
      At w k b o (sign kind.Local i ∷ y) → Names y (sign kind.Comma j ∷ x) ns → Sound w (NameNext (ForLocal i.line ns b) k) x
  stands_args_next : {p : ℕ} {c : Callee} {k : List Frame} {y x : List Sign} → Wants w k p y → CalleeAt (depth k) y x c → Sound w (ArgsNext p c k) x
  stands_args_open : {p : ℕ} {c : Callee} {i : Attributes} {k : List Frame} {y x : List Sign} →
      Wants w k p y → CalleeAt (depth k) y (sign kind.OpenParen i ∷ x) c → Room (suc (depth k)) i.counted → Sound w (ArgsOpen p c k) x
  stands_field_next : {u : Purpose} {l : ℕ} {fs : Fields} {k : List Frame} {y x : List Sign} → TableAt w k u l y → Separated (suc (depth k)) y x fs → Sound w (FieldNext u l fs k) x
  stands_field_name : {u : Purpose} {l : ℕ} {i : Attributes} {fs : Fields} {k : List Frame} {y x : List Sign} →
      TableAt w k u l y → Separated (suc (depth k)) y (sign kind.Name i ∷ x) fs → Sound w (FieldName u l fs i.line i.slice k) x
  stands_key_end : {u : Purpose} {l : ℕ} {i j : Attributes} {fs : Fields} {t : Tree} {k : List Frame} {y z x : List Sign} →
      TableAt w k u l y → Separated (suc (depth k)) y (sign kind.OpenBracket i ∷ z) fs → Room (suc (suc (depth k))) i.counted →
      Exp (suc (suc (depth k))) 0 z (sign kind.CloseBracket j ∷ x) t → Sound w (KeyEnd u l fs t k) x
  stands_block_next : {k : List Frame} {x : List Sign} → Opens w k x → Sound w (BlockNext k) x
  stands_stat_next : {b : Begun} {k : List Frame} {x : List Sign} → At w k b false x → Sound w (StatNext b k) x
  stands_label_end : {b : Begun} {o : Bool} {i j : Attributes} {k : List Frame} {x : List Sign} →
      At w k b o (sign kind.DoubleColon i ∷ sign kind.Name j ∷ x) → Sound w (LabelEnd i.line j.slice b k) x
  stands_local_next : {b : Begun} {o : Bool} {i : Attributes} {k : List Frame} {x : List Sign} → At w k b o (sign kind.Local i ∷ x) → Sound w (LocalNext i.line b k) x
  stands_local_names : {b : Begun} {o : Bool} {i : Attributes} {ns : List (List ℕ)} {k : List Frame} {y x : List Sign} →
      At w k b o (sign kind.Local i ∷ y) → Names y x ns → Sound w (LocalNames i.line ns b k) x
  stands_loop_name : {b : Begun} {o : Bool} {i j : Attributes} {k : List Frame} {x : List Sign} →
      At w k b o (sign kind.For i ∷ sign kind.Name j ∷ x) → Sound w (LoopName i.line j.slice b k) x
  stands_loop_names : {b : Begun} {o : Bool} {i : Attributes} {ns : List (List ℕ)} {k : List Frame} {y x : List Sign} →
      At w k b o (sign kind.For i ∷ y) → Names y x ns → Sound w (LoopNames i.line ns b k) x
  stands_path_next : {b : Begun} {o : Bool} {i : Attributes} {t : Tree} {k : List Frame} {y x : List Sign} →
      At w k b o (sign kind.Function i ∷ y) → Room (suc (depth k)) i.counted → Path y x t → Sound w (PathNext i.line t b k) x
  stands_body_next : {h : Head} {k : List Frame} {x : List Sign} → HeadAt w k h x → Sound w (BodyNext h k) x
  stands_param_first : {h : Head} {i : Attributes} {k : List Frame} {x : List Sign} →
      HeadAt w k h (sign kind.OpenParen i ∷ x) → Room (suc (suc (depth k))) i.counted → Sound w (ParamFirst h k) x
  stands_param_next : {h : Head} {i j : Attributes} {ns : List (List ℕ)} {k : List Frame} {y x : List Sign} →
      HeadAt w k h (sign kind.OpenParen i ∷ y) → Room (suc (suc (depth k))) i.counted → Names y (sign kind.Comma j ∷ x) ns → Sound w (ParamNext h ns k) x
  stands_param_names : {h : Head} {i : Attributes} {ns : List (List ℕ)} {k : List Frame} {y x : List Sign} →
      HeadAt w k h (sign kind.OpenParen i ∷ y) → Room (suc (suc (depth k))) i.counted → Names y x ns → Sound w (ParamNames h ns k) x
  stands_params_end : {h : Head} {i : Attributes} {ns : List (List ℕ)} {k : List Frame} {y x : List Sign} →
      HeadAt w k h (sign kind.OpenParen i ∷ y) → Room (suc (suc (depth k))) i.counted → Params y x ns true → Sound w (ParamsEnd h ns k) x
  stands_target_next : {b : Begun} {o : Bool} {l : ℕ} {i : Attributes} {ts : Trees} {k : List Frame} {y x : List Sign} →
      At w k b o y → Apart o y → Targets (depth k) l y (sign kind.Comma i ∷ x) ts → Sound w (TargetNext l ts b k) x
  stands_return_next : {b : Begun} {o : Bool} {i : Attributes} {k : List Frame} {x : List Sign} → At w k b o (sign kind.Return i ∷ x) → Sound w (ReturnNext i.line b k) x
  stands_block_end : {b : Begun} {k : List Frame} {y x : List Sign} → Opens w k y → Block (depth k) y x (block_of b) → Sound w (BlockEnd b k) x
  stands_done : {t : Tree} {i : Attributes} {x : List Sign} → Block 0 w (sign kind.EndOfText i ∷ x) t → Sound w (Done t) x

pub weaken : {d n m : ℕ} {x y : List Sign} {t : Tree} → Exp d n x y t → m ≤ n → Exp d m x y t
weaken (constant c) h = constant c
weaken vararg h = vararg
weaken (prefix p) h = prefix p
weaken (table a) h = table a
weaken (function r b) h = function r b
weaken (unary u l r a) h = unary u (omega arith) r a
weaken (binary a o l r b) h = binary a o (omega arith) r b

pub as_exp : {d p n : ℕ} {b x : List Sign} {t : Tree} → Part d p b x t → n ≤ p → Exp d n b x t
as_exp (inl a) h = prefix a
as_exp (inr r) h = weaken r.1 (omega (arith, r.2))

pub as_level : {d p n : ℕ} {b x : List Sign} {t : Tree} → Part d p b x t → n ≤ level_of t → Exp d n b x t
as_level (inl a) h = prefix a
as_level (inr r) h = weaken r.1 h

pub level_most : (t : Tree) → level_of t ≤ 9
level_most (tree.Unary _ _ _ _) = omega arith
level_most (tree.Binary _ _ op _ _) = let s = size_of (value op) in omega (arith, s.above, s.most)
level_most (tree.Logic _ _ op _ _) = let s = size_of (logic op) in omega (arith, s.above, s.most)
level_most _ = omega arith

-- Where the wanted level is above all levels it is a prefix.
pub as_prefix : {d : ℕ} {b x : List Sign} {t : Tree} → Part d 10 b x t → Prefix d b x t
as_prefix (inl a) = a
as_prefix {t = t} (inr r) = absurd (omega (arith, r.2, level_most t))

pub is_a_prefix : {d p : ℕ} {b x : List Sign} {t : Tree} → Part d p b x t → is_prefix t ≡ true → Prefix d b x t
is_a_prefix (inl a) h = a
is_a_prefix (inr r) h = absurd (let e = r.0 in cc)

pub called_with : {d : ℕ} {x y z : List Sign} {c : Callee} {ts : Trees} → CalleeAt d x y c → Args d y z ts → Prefix d x z (call_of c ts)
called_with (called_at p) a = call p a
called_with (method_at p) a = method p a

pub call_prefix : (c : Callee) (ts : Trees) → is_prefix (call_of c ts) ≡ true
call_prefix (called f) ts = refl
call_prefix (method_called o n) ts = refl

pub body_plain : {d l : ℕ} {given : List (List ℕ)} {x y : List Sign} {t : Tree} → Body d given l x y t → (is_prefix t ≡ false) × (ends_open t ≡ false) × (level_of t ≡ 9)
body_plain (body _ _ _) = (refl, refl, refl)
