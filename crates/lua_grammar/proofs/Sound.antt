-- The grammar has what the automaton reads: a step from a state that stands for what was read leads to one that does.
use Rattle.std.specs.Prelude.{◌≡◌, ℕ, suc, ◌≤◌, Bool, true, false, ◌&&◌, nat_le, cond, List, [], ◌∷◌, Option, Some, None, refl}
use Rattle.std.proofs.Common.{subst, arith, leb-true, inl, inr}
use Rattle.lua_ast.specs.declared.node.Literal.{Literal}
use Rattle.lua_ast.specs.declared.node.UnOp.{UnOp}
use Rattle.lua_ast.specs.Tree as tree
use Rattle.lua_ast.specs.Tree.{Tree, Trees, none, snoc, Cases, case, absent, present, Fields, no_field}
use Rattle.lua_grammar.specs.Kinds as kind
use Rattle.lua_grammar.specs.Signs.{Terminal, Attributes, Sign, sign}
use Rattle.lua_grammar.specs.Operators.{unary_of, constant_of}
use Rattle.lua_grammar.specs.Grammar.{Room, Apart, Names, Params, Exp, constant, vararg, table, function, name, table_arg, Exps, braces, FieldList, no_fields, Body, body, Stat, break, do_block, while, if_end, if_else, num_for, num_for_step, gen_for, named_function, method_function, local_function, Conds, first_cond, next_cond, semicolon, stat, Block, stats}
use Rattle.lua_grammar.specs.Pushdown.{Begun, add, block_of, Purpose, as_value, Head, anonymous, own_line, given_of, Frame, InParen, InUnary, InStat, InDo, InWhile, InRepeat, InThen, InElse, InNumFor, InGenFor, InFunction, ForFunction, State, Need, NameNext, FieldNext, BlockNext, BodyNext, depth, room, opened_above, opened, made, finished, begin_unary, begin_by, begin, end_block, next}
use Rattle.lua_grammar.proofs.Basics.{is_suffix}
use Rattle.lua_grammar.proofs.Nexts.{is_open}
use Rattle.lua_grammar.proofs.Contexts.{Tests, no_test, more_tests, Wants, in_paren, in_unary, in_stat, in_while_test, in_if_test, in_until, TableAt, table_value, table_argument, HeadAt, head_anonymous, head_path, head_method, head_local, Opens, whole, in_do, in_while, in_repeat, in_then, in_else, in_num_for, in_num_for_step, in_gen_for, in_function, At, at, Sound, stands_need, stands_have, stands_label, stands_goto, stands_variable, stands_function, stands_field_next, stands_block_next, stands_stat_next, stands_local_next, stands_body_next, stands_return_next, stands_done, called_with, call_prefix, body_plain}

pub some_is : {A : Type 0} {a b : A} → Some a ≡ Some b → a ≡ b
some_is h = cc

pub room_is : (d : ℕ) (c : Bool) → room d c ≡ true → Room d c
room_is d true h = leb-true d 200 h
room_is d false h = tt

opens_by : (d : ℕ) (i : Attributes) (s z : State) (b : Bool) → room (suc d) i.counted ≡ b → cond b (Some s) None ≡ Some z → Room (suc d) i.counted × (s ≡ z)
opens_by d i s z true e h = (room_is (suc d) i.counted e, cc)
opens_by d i s z false e h = cc

pub opens : (d : ℕ) (i : Attributes) (s z : State) → opened_above d i s ≡ Some z → Room (suc d) i.counted × (s ≡ z)
opens d i s z h = opens_by d i s z (room (suc d) i.counted) refl h

pub if_is : (b : Bool) (s : Option State) (z : State) → cond b s None ≡ Some z → (b ≡ true) × (s ≡ Some z)
if_is true s z h = (refl, h)
if_is false s z h = cc

pub both_true : (a b : Bool) → (a && b) ≡ true → (a ≡ true) × (b ≡ true)
both_true true b h = (refl, h)
both_true false b h = cc

pub apart_other : (o : Bool) (m : Terminal) (i : Attributes) (x : List Sign) → is_open m ≡ false → Apart o (sign m i ∷ x)
apart_other true kind.OpenParen i x h = cc
apart_other true _ i x h = tt
apart_other false m i x h = tt

tests_done : {d l : ℕ} {i : Attributes} {cs : Cases} {t b : Tree} {x y z u : List Sign} → Tests d l x y cs → Exp d 0 y (sign kind.Then i ∷ z) t → Room (suc d) i.counted → Block (suc d) z u b → Conds d l x u (case cs t b)
tests_done no_test e r bl = first_cond e r bl
tests_done (more_tests cs) e r bl = next_cond cs e r bl

-- A suffix doesn't come after what ends in a prefix.
abbrev pub Quiet : Bool → Terminal → Type 0
Quiet o m = is_suffix m ≡ true → o ≡ false

apart_quiet : (o : Bool) (m : Terminal) (i : Attributes) (x : List Sign) → Quiet o m → Apart o (sign m i ∷ x)
apart_quiet true kind.OpenParen i x q = let e = q refl in cc
apart_quiet true _ i x q = tt
apart_quiet false m i x q = tt

module _ (w x : List Sign) (z : State) where
  pub by_state : {s : State} → Some s ≡ Some z → Sound w s x → Sound w z x
  by_state h a = subst (λ z. Sound w z x) (some_is h) a

  pub by_opened : (d : ℕ) (i : Attributes) (s : State) → opened_above d i s ≡ Some z → (Room (suc d) i.counted → Sound w s x) → Sound w z x
  by_opened d i s h a = let r = opens d i s z h in subst (λ z. Sound w z x) r.1 (a r.0)

  -- One statement more.
  pub one_more : {k : List Frame} {b : Begun} {o p : Bool} {t : Tree} {y : List Sign} → At w k b o y → Apart o y → Stat (depth k) y x t p → At w k (add b t) p x
  one_more (at b ss) a st = at b (stat ss a st)

  -- One that begins with another token than a parenthesis.
  pub plain_more : {k : List Frame} {b : Begun} {o p : Bool} {t : Tree} {m : Terminal} {i : Attributes} {y : List Sign} → At w k b o (sign m i ∷ y) → is_open m ≡ false → Stat (depth k) (sign m i ∷ y) x t p → At w k (add b t) p x
  plain_more {o = o} {m = m} {i = i} {y = y} a h st = one_more a (apart_other o m i y h) st

  pub table_done : {k : List Frame} {u : Purpose} {l : ℕ} {j : Attributes} {fs : Fields} {y : List Sign} → TableAt w k u l y → FieldList (suc (depth k)) y (sign kind.CloseBrace j ∷ x) fs → Sound w (made u (tree.Table 0 l fs) k) x
  table_done (table_value b p r) f = stands_have b (inr (refl, table (braces r f), p)) (λ e. refl)
  table_done {fs = fs} (table_argument {i = i} {c = c} b a r) f =
      stands_have b (inl (called_with a (table_arg (braces r f)))) (λ e. let p = call_prefix c (snoc none (tree.Table 0 i.line fs)) in cc)

  pub head_done : {k : List Frame} {h : Head} {f : Tree} {y : List Sign} → HeadAt w k h y → Body (suc (depth k)) (given_of h) (own_line h) y x f → Sound w (finished h k f) x
  head_done (head_anonymous b l r) bd = let p = body_plain bd in stands_have b (inr (p.0, function r bd, omega (arith, p.2, l))) (λ e. p.1)
  head_done (head_path a r p) bd = stands_stat_next (plain_more a refl (named_function r p bd))
  head_done (head_method a r p) bd = stands_stat_next (plain_more a refl (method_function r p bd))
  head_done (head_local a r) bd = stands_stat_next (plain_more a refl (local_function r bd))

module _ (w x : List Sign) (z : State) (i : Attributes) where
  pub do_end : {k : List Frame} {b : Begun} {o : Bool} {j : Attributes} {t : Tree} {y : List Sign} (m : Terminal) →
      At w k b o (sign kind.Do j ∷ y) → Room (suc (depth k)) j.counted → Block (suc (depth k)) y (sign m i ∷ x) t → end_block (InDo j.line b ∷ k) t m i ≡ Some z → Sound w z x
  do_end kind.End a r bl h = by_state w x z h (stands_stat_next (plain_more w x z a refl (do_block r bl)))
  do_end _ a r bl h = cc

  pub while_end : {k : List Frame} {b : Begun} {o : Bool} {j n : Attributes} {e t : Tree} {y u : List Sign} (m : Terminal) →
      At w k b o (sign kind.While j ∷ y) → Exp (depth k) 0 y (sign kind.Do n ∷ u) e → Room (suc (depth k)) n.counted → Block (suc (depth k)) u (sign m i ∷ x) t → end_block (InWhile j.line e b ∷ k) t m i ≡ Some z → Sound w z x
  while_end kind.End a e r bl h = by_state w x z h (stands_stat_next (plain_more w x z a refl (while e r bl)))
  while_end _ a e r bl h = cc

  pub repeat_end : {k : List Frame} {b : Begun} {o : Bool} {j : Attributes} {t : Tree} {y : List Sign} (m : Terminal) →
      At w k b o (sign kind.Repeat j ∷ y) → Room (suc (depth k)) j.counted → Block (suc (depth k)) y (sign m i ∷ x) t → end_block (InRepeat j.line b ∷ k) t m i ≡ Some z → Sound w z x
  repeat_end kind.Until a r bl h = by_state w x z h (stands_need (in_until a r bl) (omega arith))
  repeat_end _ a r bl h = cc

  pub then_block_end : {k : List Frame} {b : Begun} {o : Bool} {l : ℕ} {j : Attributes} {cs : Cases} {e t : Tree} {y u v : List Sign} (m : Terminal) →
      At w k b o y → Apart o y → Tests (depth k) l y u cs → Exp (depth k) 0 u (sign kind.Then j ∷ v) e → Room (suc (depth k)) j.counted → Block (suc (depth k)) v (sign m i ∷ x) t →
      end_block (InThen l cs e b ∷ k) t m i ≡ Some z → Sound w z x
  then_block_end kind.End a p q e r bl h = by_state w x z h (stands_stat_next (one_more w x z a p (if_end (tests_done q e r bl))))
  then_block_end kind.Elseif a p q e r bl h = by_state w x z h (stands_need (in_if_test a p (more_tests (tests_done q e r bl))) (omega arith))
  then_block_end {k = k} {b = b} {l = l} {cs = cs} {e = te} {t = t} kind.Else a p q e r bl h =
      by_opened w x z (depth k) i (BlockNext (InElse l (case cs te t) b ∷ k)) h (λ s. stands_block_next (in_else a p (tests_done q e r bl) s))
  then_block_end _ a p q e r bl h = cc

  pub else_end : {k : List Frame} {b : Begun} {o : Bool} {l : ℕ} {j : Attributes} {cs : Cases} {t : Tree} {y u : List Sign} (m : Terminal) →
      At w k b o y → Apart o y → Conds (depth k) l y (sign kind.Else j ∷ u) cs → Room (suc (depth k)) j.counted → Block (suc (depth k)) u (sign m i ∷ x) t → end_block (InElse l cs b ∷ k) t m i ≡ Some z → Sound w z x
  else_end kind.End a p cs r bl h = by_state w x z h (stands_stat_next (one_more w x z a p (if_else cs r bl)))
  else_end _ a p cs r bl h = cc

  pub num_for_end : {k : List Frame} {b : Begun} {o : Bool} {j n q c e : Attributes} {t1 t2 t : Tree} {y u v : List Sign} (m : Terminal) →
      At w k b o (sign kind.For j ∷ sign kind.Name n ∷ sign kind.Assign q ∷ y) → Exp (depth k) 0 y (sign kind.Comma c ∷ u) t1 → Exp (depth k) 0 u (sign kind.Do e ∷ v) t2 → Room (suc (depth k)) e.counted →
      Block (suc (depth k)) v (sign m i ∷ x) t → end_block (InNumFor j.line n.slice t1 t2 absent b ∷ k) t m i ≡ Some z → Sound w z x
  num_for_end kind.End a e f r bl h = by_state w x z h (stands_stat_next (plain_more w x z a refl (num_for e f r bl)))
  num_for_end _ a e f r bl h = cc

  pub num_for_step_end : {k : List Frame} {b : Begun} {o : Bool} {j n q c d e : Attributes} {t1 t2 t3 t : Tree} {y u v v' : List Sign} (m : Terminal) →
      At w k b o (sign kind.For j ∷ sign kind.Name n ∷ sign kind.Assign q ∷ y) → Exp (depth k) 0 y (sign kind.Comma c ∷ u) t1 → Exp (depth k) 0 u (sign kind.Comma d ∷ v) t2 → Exp (depth k) 0 v (sign kind.Do e ∷ v') t3 →
      Room (suc (depth k)) e.counted → Block (suc (depth k)) v' (sign m i ∷ x) t → end_block (InNumFor j.line n.slice t1 t2 (present t3) b ∷ k) t m i ≡ Some z → Sound w z x
  num_for_step_end kind.End a e f g r bl h = by_state w x z h (stands_stat_next (plain_more w x z a refl (num_for_step e f g r bl)))
  num_for_step_end _ a e f g r bl h = cc

  pub gen_for_end : {k : List Frame} {b : Begun} {o p : Bool} {j n e : Attributes} {ns : List (List ℕ)} {ts : Trees} {t : Tree} {y u v : List Sign} (m : Terminal) →
      At w k b o (sign kind.For j ∷ y) → Names y (sign kind.In n ∷ u) ns → Exps (depth k) u (sign kind.Do e ∷ v) ts p → Room (suc (depth k)) e.counted →
      Block (suc (depth k)) v (sign m i ∷ x) t → end_block (InGenFor j.line ns ts b ∷ k) t m i ≡ Some z → Sound w z x
  gen_for_end kind.End a n e r bl h = by_state w x z h (stands_stat_next (plain_more w x z a refl (gen_for n e r bl)))
  gen_for_end _ a n e r bl h = cc

  pub function_end : {k : List Frame} {hd : Head} {j n : Attributes} {ns : List (List ℕ)} {more : Bool} {t : Tree} {y u : List Sign} (m : Terminal) →
      HeadAt w k hd (sign kind.OpenParen j ∷ y) → Room (suc (suc (depth k))) j.counted → Params y (sign kind.CloseParen n ∷ u) ns more → Block (suc (depth k)) u (sign m i ∷ x) t →
      end_block (InFunction hd ns more ∷ k) t m i ≡ Some z → Sound w z x
  function_end kind.End a r ps bl h = by_state w x z h (head_done w x z a (body r ps bl))
  function_end _ a r ps bl h = cc

  pub text_end : {t : Tree} (m : Terminal) → Block 0 w (sign m i ∷ x) t → end_block [] t m i ≡ Some z → Sound w z x
  text_end kind.EndOfText bl h = by_state w x z h (stands_done bl)
  text_end _ bl h = cc

  pub end_sound : {k : List Frame} {t : Tree} {y : List Sign} (m : Terminal) → Opens w k y → Block (depth k) y (sign m i ∷ x) t → end_block k t m i ≡ Some z → Sound w z x
  end_sound m whole bl h = text_end m bl h
  end_sound m (in_do a r) bl h = do_end m a r bl h
  end_sound m (in_while a e r) bl h = while_end m a e r bl h
  end_sound m (in_repeat a r) bl h = repeat_end m a r bl h
  end_sound m (in_then a p q e r) bl h = then_block_end m a p q e r bl h
  end_sound m (in_else a p cs r) bl h = else_end m a p cs r bl h
  end_sound m (in_num_for a e f r) bl h = num_for_end m a e f r bl h
  end_sound m (in_num_for_step a e f g r) bl h = num_for_step_end m a e f g r bl h
  end_sound m (in_gen_for a n e r) bl h = gen_for_end m a n e r bl h
  end_sound m (in_function a r ps) bl h = function_end m a r ps bl h

  pub block_sound : {k : List Frame} {b : Begun} {o : Bool} (m : Terminal) → At w k b o (sign m i ∷ x) → end_block k (block_of b) m i ≡ Some z → Sound w z x
  block_sound m (at b ss) h = end_sound m b (stats ss) h

  pub without : {k : List Frame} {b : Begun} {o : Bool} → At w k b o (sign kind.Semicolon i ∷ x) → At w k b false x
  without (at b ss) = at b (semicolon ss)

  -- A statement begins here, or the block ends.
  pub next_sound : {k : List Frame} {b : Begun} {o : Bool} (m : Terminal) → At w k b o (sign m i ∷ x) → Apart o (sign m i ∷ x) → next b k m i ≡ Some z → Sound w z x
  next_sound kind.Semicolon a p h = by_state w x z h (stands_stat_next (without a))
  next_sound kind.Name a p h = by_state w x z h (stands_have (in_stat a p) (inl name) (λ e. cc))
  next_sound {k = k} {b = b} kind.OpenParen a p h = by_opened w x z (depth k) i (Need 0 (InParen 10 i.line ∷ InStat b ∷ k)) h (λ r. stands_need (in_paren (in_stat a p) r) (omega arith))
  next_sound kind.DoubleColon a p h = by_state w x z h (stands_label a)
  next_sound kind.Break a p h = by_state w x z h (stands_stat_next (one_more w x z a p break))
  next_sound kind.Goto a p h = by_state w x z h (stands_goto a)
  next_sound {k = k} {b = b} kind.Do a p h = by_opened w x z (depth k) i (BlockNext (InDo i.line b ∷ k)) h (λ r. stands_block_next (in_do a r))
  next_sound kind.While a p h = by_state w x z h (stands_need (in_while_test a) (omega arith))
  next_sound {k = k} {b = b} kind.Repeat a p h = by_opened w x z (depth k) i (BlockNext (InRepeat i.line b ∷ k)) h (λ r. stands_block_next (in_repeat a r))
  next_sound kind.If a p h = by_state w x z h (stands_need (in_if_test a p no_test) (omega arith))
  next_sound kind.For a p h = by_state w x z h (stands_variable a)
  next_sound {k = k} {b = b} kind.Function a p h = by_opened w x z (depth k) i (NameNext (ForFunction i.line b) k) h (λ r. stands_function a r)
  next_sound kind.Local a p h = by_state w x z h (stands_local_next a)
  next_sound kind.Return a p h = by_state w x z h (stands_return_next a)
  next_sound m a p h = block_sound m a h

  -- A statement is over where the next one begins.
  pub over_sound : {k : List Frame} {b : Begun} {o p : Bool} {t : Tree} {y : List Sign} (m : Terminal) → At w k b o y → Apart o y → Stat (depth k) y (sign m i ∷ x) t p → Quiet p m → next (add b t) k m i ≡ Some z → Sound w z x
  over_sound {p = p} m a q st e h = next_sound m (one_more w (sign m i ∷ x) z a q st) (apart_quiet p m i x e) h

  -- An expression is wanted.
  pub unary_sound : {p : ℕ} {k : List Frame} (m : Terminal) (o : Option UnOp) → Wants w k p (sign m i ∷ x) → unary_of m ≡ o → begin_unary p k i o ≡ Some z → Sound w z x
  unary_sound m None b e h = cc
  unary_sound {p = p} {k = k} m (Some op) b e h =
      let r = if_is (nat_le p 7) (opened k i (Need 7 (InUnary p i.line op ∷ k))) z h in
      by_opened w x z (depth k) i (Need 7 (InUnary p i.line op ∷ k)) r.1 (λ s. stands_need (in_unary b e (leb-true p 7 r.0) s) (omega arith))

  pub begin_by_sound : {p : ℕ} {k : List Frame} (m : Terminal) (o : Option Literal) → Wants w k p (sign m i ∷ x) → p ≤ 7 → constant_of m i.slice ≡ o → begin_by p k i o (unary_of m) ≡ Some z → Sound w z x
  begin_by_sound m None b l e h = unary_sound m (unary_of m) b refl h
  begin_by_sound m (Some v) b l e h = by_state w x z h (stands_have b (inr (refl, constant e, omega arith)) (λ e. refl))

  pub begin_sound : {p : ℕ} {k : List Frame} (m : Terminal) → Wants w k p (sign m i ∷ x) → p ≤ 7 → begin p k m i ≡ Some z → Sound w z x
  begin_sound kind.Ellipsis b l h = by_state w x z h (stands_have b (inr (refl, vararg, omega arith)) (λ e. refl))
  begin_sound kind.Name b l h = by_state w x z h (stands_have b (inl name) (λ e. cc))
  begin_sound {p = p} {k = k} kind.OpenParen b l h = by_opened w x z (depth k) i (Need 0 (InParen p i.line ∷ k)) h (λ r. stands_need (in_paren b r) (omega arith))
  begin_sound {p = p} {k = k} kind.OpenBrace b l h = by_opened w x z (depth k) i (FieldNext (as_value p) i.line no_field k) h (λ r. stands_field_next (table_value b (omega arith) r) no_fields)
  begin_sound {p = p} {k = k} kind.Function b l h = by_opened w x z (depth k) i (BodyNext (anonymous p i.line) k) h (λ r. stands_body_next (head_anonymous b (omega arith) r))
  begin_sound m b l h = begin_by_sound m (constant_of m i.slice) b l refl h
