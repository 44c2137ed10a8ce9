-- Each step from a state that stands for what was read leads to one that does.
use Rattle.std.specs.Prelude.{◌≡◌, ℕ, suc, Bool, true, false, nat_le, cond, List, [], ◌∷◌, Option, Some, None, refl}
use Rattle.std.proofs.Common.{◌∙◌, arith, leb-true, inl, inr}
use Rattle.lua_ast.specs.Tree as tree
use Rattle.lua_ast.specs.Tree.{Tree, Trees, none, snoc, Cases, absent, present, Fields, no_field, line_of}
use Rattle.lua_grammar.specs.Kinds as kind
use Rattle.lua_grammar.specs.Signs.{Terminal, Attributes, Sign, sign}
use Rattle.lua_grammar.specs.Operators.{Operator, operator_of, level, left_of, right_of, joined}
use Rattle.lua_grammar.specs.Grammar.{Room, Apart, is_var, is_call, is_prefix, ends_open, Names, Exp, unary, binary, Prefix, paren, index, some_args, text_arg, Commas, no_commas, commas, exps, and_last, Separated, no_fields, fields, Field, item_field, named_field, keyed_field, Targets, target, targets, assign, call_stat, repeat, local_exps, Returned, returns, returns_semicolon, Block, stats_return}
use Rattle.lua_grammar.specs.Pushdown.{Begun, add, block_of, Callee, called, Purpose, as_argument, Frame, InParen, InUnary, InBinary, InIndex, InArgs, InKey, InLocal, InTargets, InAssign, InReturn, InWhileTest, InIfTest, InFirst, InLimit, InStep, InIterator, InWhile, InThen, InNumFor, InGenFor, ForField, ForMethod, State, Need, NameNext, ArgsOpen, FieldNext, BlockNext, TargetNext, depth, level_of, opened, text_args, next, after_prefix, field_done, close, args_begin, takes, operator, suffix, rest, follow}
use Rattle.lua_grammar.proofs.Basics.{size_of, joined_level, joined_open, joined_plain, is_suffix, prefix_is, prefix_open}
use Rattle.lua_grammar.proofs.Contexts.{CalleeAt, called_at, Tests, Wants, in_paren, in_unary, in_binary, in_index, in_args, in_item, in_named, in_key, in_keyed, in_local, in_stat, in_targets, in_assign, in_return, in_while_test, in_if_test, in_until, in_first, in_limit, in_step, in_iterator, TableAt, table_argument, Opens, in_while, in_then, in_num_for, in_num_for_step, in_gen_for, At, at, Part, Sound, stands_need, stands_have, stands_field, stands_method, stands_args_open, stands_field_next, stands_key_end, stands_block_next, stands_target_next, stands_block_end, as_exp, as_level, as_prefix, is_a_prefix, called_with, call_prefix}
use Rattle.lua_grammar.proofs.Sound.{if_is, both_true, apart_other, Quiet, by_state, by_opened, table_done, end_sound, over_sound}

module _ (w x : List Sign) (z : State) (i : Attributes) where
  pub paren_close : {k : List Frame} {q : ℕ} {j : Attributes} {t : Tree} {y : List Sign} (m : Terminal) → Wants w k q (sign kind.OpenParen j ∷ y) → Room (suc (depth k)) j.counted → Exp (suc (depth k)) 0 y (sign m i ∷ x) t →
      close (InParen q j.line) t k m i ≡ Some z → Sound w z x
  paren_close kind.CloseParen b r e h = by_state w x z h (stands_have b (inl (paren r e)) (λ e. cc))
  paren_close _ b r e h = cc

  pub index_close : {k : List Frame} {q : ℕ} {j : Attributes} {f t : Tree} {y u : List Sign} (m : Terminal) → Wants w k q u → Prefix (depth k) u (sign kind.OpenBracket j ∷ y) f → Room (suc (depth k)) j.counted → Exp (suc (depth k)) 0 y (sign m i ∷ x) t →
      close (InIndex q f) t k m i ≡ Some z → Sound w z x
  index_close kind.CloseBracket b p r e h = by_state w x z h (stands_have b (inl (index p r e)) (λ e. cc))
  index_close _ b p r e h = cc

  pub args_close : {k : List Frame} {q : ℕ} {j : Attributes} {c : Callee} {es : Trees} {t : Tree} {y u v : List Sign} (m : Terminal) →
      Wants w k q y → CalleeAt (depth k) y (sign kind.OpenParen j ∷ u) c → Room (suc (depth k)) j.counted → Commas (suc (depth k)) u v es → Exp (suc (depth k)) 0 v (sign m i ∷ x) t →
      close (InArgs q c es) t k m i ≡ Some z → Sound w z x
  args_close {c = c} {es = es} {t = t} kind.CloseParen b p r cs e h = by_state w x z h (stands_have b (inl (called_with p (some_args r (exps cs e)))) (λ e. let q = call_prefix c (snoc es t) in cc))
  args_close kind.Comma b p r cs e h = by_state w x z h (stands_need (in_args b p r (commas cs e)) (omega arith))
  args_close _ b p r cs e h = cc

  -- A field is over.
  pub field_close : {k : List Frame} {u : Purpose} {l : ℕ} {fs gs : Fields} {y v : List Sign} (m : Terminal) → TableAt w k u l y → Separated (suc (depth k)) y v fs → Field (suc (depth k)) v (sign m i ∷ x) fs gs →
      field_done u l gs k m ≡ Some z → Sound w z x
  field_close kind.Comma a s f h = by_state w x z h (stands_field_next a (fields s f refl))
  field_close kind.Semicolon a s f h = by_state w x z h (stands_field_next a (fields s f refl))
  field_close kind.CloseBrace a s f h = by_state w x z h (table_done w x z a (and_last s f))
  field_close _ a s f h = cc

  pub key_close : {k : List Frame} {u : Purpose} {l : ℕ} {j : Attributes} {fs : Fields} {t : Tree} {y v : List Sign} (m : Terminal) → TableAt w k u l y → Separated (suc (depth k)) y (sign kind.OpenBracket j ∷ v) fs → Room (suc (suc (depth k))) j.counted →
      Exp (suc (suc (depth k))) 0 v (sign m i ∷ x) t → close (InKey u l fs) t k m i ≡ Some z → Sound w z x
  key_close kind.CloseBracket a s r e h = by_state w x z h (stands_key_end a s r e)
  key_close _ a s r e h = cc

  pub local_close : {k : List Frame} {b : Begun} {o : Bool} {j n : Attributes} {ns : List (List ℕ)} {es : Trees} {t : Tree} {y u v : List Sign} (m : Terminal) →
      At w k b o (sign kind.Local j ∷ y) → Names y (sign kind.Assign n ∷ u) ns → Commas (depth k) u v es → Exp (depth k) 0 v (sign m i ∷ x) t → Quiet (ends_open t) m →
      close (InLocal j.line ns es b) t k m i ≡ Some z → Sound w z x
  local_close kind.Comma a n cs e q h = by_state w x z h (stands_need (in_local a n (commas cs e)) (omega arith))
  local_close {o = o} {j = j} {y = y} m a n cs e q h = over_sound w x z i m a (apart_other o kind.Local j y refl) (local_exps n (exps cs e)) q h

  pub assign_close : {k : List Frame} {b : Begun} {o : Bool} {l : ℕ} {j : Attributes} {ts es : Trees} {t : Tree} {y u v : List Sign} (m : Terminal) →
      At w k b o y → Apart o y → Targets (depth k) l y (sign kind.Assign j ∷ u) ts → Commas (depth k) u v es → Exp (depth k) 0 v (sign m i ∷ x) t → Quiet (ends_open t) m →
      close (InAssign l ts es b) t k m i ≡ Some z → Sound w z x
  assign_close kind.Comma a p vs cs e q h = by_state w x z h (stands_need (in_assign a p vs (commas cs e)) (omega arith))
  assign_close m a p vs cs e q h = over_sound w x z i m a p (assign vs (exps cs e)) q h

  pub targets_close : {k : List Frame} {b : Begun} {o : Bool} {l : ℕ} {j : Attributes} {ts : Trees} {t : Tree} {y u : List Sign} (m : Terminal) →
      At w k b o y → Apart o y → Targets (depth k) l y (sign kind.Comma j ∷ u) ts → Prefix (depth k) u (sign m i ∷ x) t → close (InTargets l ts b) t k m i ≡ Some z → Sound w z x
  targets_close {k = k} {b = b} {l = l} {ts = ts} {t = t} kind.Assign a p vs e h =
      let r = if_is (is_var t) (Some (Need 0 (InAssign l (snoc ts t) none b ∷ k))) z h in by_state w x z r.1 (stands_need (in_assign a p (targets vs e r.0) no_commas) (omega arith))
  targets_close {k = k} {b = b} {l = l} {ts = ts} {t = t} kind.Comma a p vs e h =
      let r = if_is (is_var t) (Some (TargetNext l (snoc ts t) b k)) z h in by_state w x z r.1 (stands_target_next a p (targets vs e r.0))
  targets_close _ a p vs e h = cc

  pub stat_close : {k : List Frame} {b : Begun} {o : Bool} {t : Tree} {y : List Sign} (m : Terminal) → At w k b o y → Apart o y → Prefix (depth k) y (sign m i ∷ x) t → Quiet (ends_open t) m →
      after_prefix t b k m i ≡ Some z → Sound w z x
  stat_close {k = k} {b = b} {t = t} kind.Assign a p e q h =
      let r = if_is (is_var t) (Some (Need 0 (InAssign (line_of t) (snoc none t) none b ∷ k))) z h in by_state w x z r.1 (stands_need (in_assign a p (target e r.0) no_commas) (omega arith))
  stat_close {k = k} {b = b} {t = t} kind.Comma a p e q h =
      let r = if_is (is_var t) (Some (TargetNext (line_of t) (snoc none t) b k)) z h in by_state w x z r.1 (stands_target_next a p (target e r.0))
  stat_close {k = k} {b = b} {t = t} m a p e q h =
      let r = if_is (is_call t) (next (add b (tree.CallStat 0 (line_of t) t)) k m i) z h in
      over_sound w x z i m a p (call_stat e r.0) (λ s. let f = q s in let g = prefix_open t (prefix_is e) in cc) r.1

  pub return_done : {k : List Frame} {b : Begun} {o : Bool} {j : Attributes} {es : Trees} {y u : List Sign} → At w k b o (sign kind.Return j ∷ y) → Returned (depth k) y u es → (v : List Sign) × Opens w k v × Block (depth k) v u (block_of (add b (tree.Return 0 j.line es)))
  return_done (at {y = v} a ss) r = (v, a, stats_return ss r)

  pub return_close : {k : List Frame} {b : Begun} {o : Bool} {j : Attributes} {es : Trees} {t : Tree} {y u : List Sign} (m : Terminal) → At w k b o (sign kind.Return j ∷ y) → Commas (depth k) y u es → Exp (depth k) 0 u (sign m i ∷ x) t →
      close (InReturn j.line es b) t k m i ≡ Some z → Sound w z x
  return_close kind.Comma a cs e h = by_state w x z h (stands_need (in_return a (commas cs e)) (omega arith))
  return_close kind.Semicolon a cs e h = let r = return_done a (returns_semicolon (exps cs e)) in by_state w x z h (stands_block_end r.1 r.2)
  return_close m a cs e h = let r = return_done a (returns (exps cs e)) in end_sound w x z i m r.1 r.2 h

  pub while_close : {k : List Frame} {b : Begun} {o : Bool} {j : Attributes} {t : Tree} {y : List Sign} (m : Terminal) → At w k b o (sign kind.While j ∷ y) → Exp (depth k) 0 y (sign m i ∷ x) t → close (InWhileTest j.line b) t k m i ≡ Some z → Sound w z x
  while_close {k = k} {b = b} {j = j} {t = t} kind.Do a e h = by_opened w x z (depth k) i (BlockNext (InWhile j.line t b ∷ k)) h (λ r. stands_block_next (in_while a e r))
  while_close _ a e h = cc

  pub if_close : {k : List Frame} {b : Begun} {o : Bool} {l : ℕ} {cs : Cases} {t : Tree} {y u : List Sign} (m : Terminal) → At w k b o y → Apart o y → Tests (depth k) l y u cs → Exp (depth k) 0 u (sign m i ∷ x) t →
      close (InIfTest l cs b) t k m i ≡ Some z → Sound w z x
  if_close {k = k} {b = b} {l = l} {cs = cs} {t = t} kind.Then a p q e h = by_opened w x z (depth k) i (BlockNext (InThen l cs t b ∷ k)) h (λ r. stands_block_next (in_then a p q e r))
  if_close _ a p q e h = cc

  pub first_close : {k : List Frame} {b : Begun} {o : Bool} {j n l : Attributes} {t : Tree} {y : List Sign} (m : Terminal) → At w k b o (sign kind.For j ∷ sign kind.Name n ∷ sign kind.Assign l ∷ y) → Exp (depth k) 0 y (sign m i ∷ x) t →
      close (InFirst j.line n.slice b) t k m i ≡ Some z → Sound w z x
  first_close kind.Comma a e h = by_state w x z h (stands_need (in_limit a e) (omega arith))
  first_close _ a e h = cc

  pub limit_close : {k : List Frame} {b : Begun} {o : Bool} {j n l c : Attributes} {s t : Tree} {y u : List Sign} (m : Terminal) → At w k b o (sign kind.For j ∷ sign kind.Name n ∷ sign kind.Assign l ∷ y) → Exp (depth k) 0 y (sign kind.Comma c ∷ u) s → Exp (depth k) 0 u (sign m i ∷ x) t →
      close (InLimit j.line n.slice s b) t k m i ≡ Some z → Sound w z x
  limit_close kind.Comma a e f h = by_state w x z h (stands_need (in_step a e f) (omega arith))
  limit_close {k = k} {b = b} {j = j} {n = n} {s = s} {t = t} kind.Do a e f h = by_opened w x z (depth k) i (BlockNext (InNumFor j.line n.slice s t absent b ∷ k)) h (λ r. stands_block_next (in_num_for a e f r))
  limit_close _ a e f h = cc

  pub step_close : {k : List Frame} {b : Begun} {o : Bool} {j n l c d : Attributes} {s s' t : Tree} {y u v : List Sign} (m : Terminal) → At w k b o (sign kind.For j ∷ sign kind.Name n ∷ sign kind.Assign l ∷ y) → Exp (depth k) 0 y (sign kind.Comma c ∷ u) s → Exp (depth k) 0 u (sign kind.Comma d ∷ v) s' →
      Exp (depth k) 0 v (sign m i ∷ x) t → close (InStep j.line n.slice s s' b) t k m i ≡ Some z → Sound w z x
  step_close {k = k} {b = b} {j = j} {n = n} {s = s} {s' = s'} {t = t} kind.Do a e f g h = by_opened w x z (depth k) i (BlockNext (InNumFor j.line n.slice s s' (present t) b ∷ k)) h (λ r. stands_block_next (in_num_for_step a e f g r))
  step_close _ a e f g h = cc

  pub iterator_close : {k : List Frame} {b : Begun} {o : Bool} {j n : Attributes} {ns : List (List ℕ)} {es : Trees} {t : Tree} {y u v : List Sign} (m : Terminal) → At w k b o (sign kind.For j ∷ y) → Names y (sign kind.In n ∷ u) ns → Commas (depth k) u v es → Exp (depth k) 0 v (sign m i ∷ x) t →
      close (InIterator j.line ns es b) t k m i ≡ Some z → Sound w z x
  iterator_close kind.Comma a n cs e h = by_state w x z h (stands_need (in_iterator a n (commas cs e)) (omega arith))
  iterator_close {k = k} {b = b} {j = j} {ns = ns} {es = es} {t = t} kind.Do a n cs e h = by_opened w x z (depth k) i (BlockNext (InGenFor j.line ns (snoc es t) b ∷ k)) h (λ r. stands_block_next (in_gen_for a n (exps cs e) r))
  iterator_close _ a n cs e h = cc

  -- What was begun goes on with the expression.
  pub close_sound : {f : Frame} {k : List Frame} {p : ℕ} {t : Tree} {y : List Sign} (m : Terminal) → Wants w (f ∷ k) p y → Part (depth (f ∷ k)) p y (sign m i ∷ x) t → Quiet (ends_open t) m → close f t k m i ≡ Some z → Sound w z x
  close_sound m (in_paren b r) e q h = paren_close m b r (as_exp e (omega arith)) h
  close_sound m (in_unary b u l r) e q h = cc
  close_sound m (in_binary b a o l r) e q h = cc
  close_sound m (in_index b p r) e q h = index_close m b p r (as_exp e (omega arith)) h
  close_sound m (in_args b p r cs) e q h = args_close m b p r cs (as_exp e (omega arith)) h
  close_sound m (in_item a s) e q h = field_close m a s (item_field (as_exp e (omega arith))) h
  close_sound m (in_named a s) e q h = field_close m a s (named_field (as_exp e (omega arith))) h
  close_sound m (in_key a s r) e q h = key_close m a s r (as_exp e (omega arith)) h
  close_sound m (in_keyed a s r f) e q h = field_close m a s (keyed_field r f (as_exp e (omega arith))) h
  close_sound m (in_local a n cs) e q h = local_close m a n cs (as_exp e (omega arith)) q h
  close_sound m (in_stat a p) e q h = stat_close m a p (as_prefix e) q h
  close_sound m (in_targets a p vs) e q h = targets_close m a p vs (as_prefix e) h
  close_sound m (in_assign a p vs cs) e q h = assign_close m a p vs cs (as_exp e (omega arith)) q h
  close_sound m (in_return a cs) e q h = return_close m a cs (as_exp e (omega arith)) h
  close_sound m (in_while_test a) e q h = while_close m a (as_exp e (omega arith)) h
  close_sound m (in_if_test a p ts) e q h = if_close m a p ts (as_exp e (omega arith)) h
  close_sound m (in_until {o = o} {i = j} {x = y} a r bl) e q h = over_sound w x z i m a (apart_other o kind.Repeat j y refl) (repeat r bl (as_exp e (omega arith))) q h
  close_sound m (in_first a) e q h = first_close m a (as_exp e (omega arith)) h
  close_sound m (in_limit a b) e q h = limit_close m a b (as_exp e (omega arith)) h
  close_sound m (in_step a b c) e q h = step_close m a b c (as_exp e (omega arith)) h
  close_sound m (in_iterator a n cs) e q h = iterator_close m a n cs (as_exp e (omega arith)) h

  pub operator_sound : {p : ℕ} {t : Tree} {k : List Frame} {y : List Sign} (m : Terminal) (otherwise : Option State) (o : Option Operator) →
      Wants w k p y → Part (depth k) p y (sign m i ∷ x) t → (otherwise ≡ Some z → Sound w z x) → operator_of m ≡ o → operator p t k i o otherwise ≡ Some z → Sound w z x
  operator_sound m otherwise None b e other g h = other h
  operator_sound {p = p} {t = t} {k = k} m otherwise (Some op) b e other g h = by (takes p t op) refl h where
    by : (c : Bool) → takes p t op ≡ c → cond c (opened k i (Need (right_of op) (InBinary p op t ∷ k))) otherwise ≡ Some z → Sound w z x
    by false i' h = other h
    by true i' h =
        let tests = both_true (nat_le p (level op)) (nat_le (left_of op) (level_of t)) i' in
        by_opened w x z (depth k) i (Need (right_of op) (InBinary p op t ∷ k)) h (λ r. stands_need (in_binary b (as_level e (leb-true (left_of op) (level_of t) tests.1)) g (leb-true p (level op) tests.0) r) (size_of op).right)

  pub or_else : (b : Bool) (s o : Option State) → cond b s o ≡ Some z → ((b ≡ true) → s ≡ Some z → Sound w z x) → ((b ≡ false) → o ≡ Some z → Sound w z x) → Sound w z x
  or_else true s o h f g = f refl h
  or_else false s o h f g = g refl h

  pub args_begin_sound : {p : ℕ} {c : Callee} {k : List Frame} {y : List Sign} (m : Terminal) → Wants w k p y → CalleeAt (depth k) y (sign m i ∷ x) c → args_begin p c k m i ≡ Some z → Sound w z x
  args_begin_sound {p = p} {c = c} {k = k} kind.OpenParen b a h = by_opened w x z (depth k) i (ArgsOpen p c k) h (λ r. stands_args_open b a r)
  args_begin_sound {p = p} {c = c} {k = k} kind.OpenBrace b a h = by_opened w x z (depth k) i (FieldNext (as_argument p c) i.line no_field k) h (λ r. stands_field_next (table_argument b a r) no_fields)
  args_begin_sound {c = c} kind.Text b a h = by_state w x z h (stands_have b (inl (called_with a text_arg)) (λ e. let q = call_prefix c (text_args i) in cc))
  args_begin_sound _ b a h = cc

  -- Otherwise is reached only where a suffix does not go on.
  pub suffix_sound : {p : ℕ} {t : Tree} {k : List Frame} {y : List Sign} (m : Terminal) (otherwise : Option State) →
      Wants w k p y → Part (depth k) p y (sign m i ∷ x) t → ((is_suffix m ≡ true → is_prefix t ≡ false) → otherwise ≡ Some z → Sound w z x) → suffix p t k m i otherwise ≡ Some z → Sound w z x
  suffix_sound {p = p} {t = t} {k = k} kind.Dot otherwise a e other h = or_else (is_prefix t) (Some (NameNext (ForField p t) k)) otherwise h (λ g j. by_state w x z j (stands_field a (is_a_prefix e g))) (λ g j. other (λ _. g) j)
  suffix_sound {p = p} {t = t} {k = k} kind.Colon otherwise a e other h = or_else (is_prefix t) (Some (NameNext (ForMethod p t) k)) otherwise h (λ g j. by_state w x z j (stands_method a (is_a_prefix e g))) (λ g j. other (λ _. g) j)
  suffix_sound {p = p} {t = t} {k = k} kind.OpenBracket otherwise a e other h =
      or_else (is_prefix t) (opened k i (Need 0 (InIndex p t ∷ k))) otherwise h (λ g j. by_opened w x z (depth k) i (Need 0 (InIndex p t ∷ k)) j (λ r. stands_need (in_index a (is_a_prefix e g) r) (omega arith))) (λ g j. other (λ _. g) j)
  suffix_sound {p = p} {t = t} {k = k} kind.OpenParen otherwise a e other h = or_else (is_prefix t) (args_begin p (called t) k kind.OpenParen i) otherwise h (λ g j. args_begin_sound kind.OpenParen a (called_at (is_a_prefix e g)) j) (λ g j. other (λ _. g) j)
  suffix_sound {p = p} {t = t} {k = k} kind.OpenBrace otherwise a e other h = or_else (is_prefix t) (args_begin p (called t) k kind.OpenBrace i) otherwise h (λ g j. args_begin_sound kind.OpenBrace a (called_at (is_a_prefix e g)) j) (λ g j. other (λ _. g) j)
  suffix_sound {p = p} {t = t} {k = k} kind.Text otherwise a e other h = or_else (is_prefix t) (args_begin p (called t) k kind.Text i) otherwise h (λ g j. args_begin_sound kind.Text a (called_at (is_a_prefix e g)) j) (λ g j. other (λ _. g) j)
  suffix_sound m otherwise a e other h = operator_sound m otherwise (operator_of m) a e (other (λ e. cc)) refl h

  pub rest_sound : (k : List Frame) {p : ℕ} {t : Tree} {y : List Sign} (m : Terminal) → Wants w k p y → Part (depth k) p y (sign m i ∷ x) t → Quiet (ends_open t) m → rest k t m i ≡ Some z → Sound w z x
  rest_sound [] m b e q h = cc
  rest_sound (InUnary p l op ∷ k) {t = t} m (in_unary b u g r) e q h =
      let part = inr (refl, unary u (omega arith) r (as_exp e (omega arith)), g) in
      suffix_sound m (rest k (tree.Unary 0 l op t) m i) b part (λ _ j. rest_sound k m b part q j) h
  rest_sound (InBinary p op l ∷ k) {t = t} m (in_binary b a o g r) e q h =
      let part = inr (joined_plain op l t, binary a o (omega (arith, joined_level op l t)) r (as_exp e (omega arith)), omega (arith, joined_level op l t, g)) in
      suffix_sound m (rest k (joined op l t) m i) b part (λ _ j. rest_sound k m b part (λ s. joined_open op l t ∙ q s) j) h
  rest_sound (f ∷ k) m b e q h = close_sound m b e q h

  pub follow_sound : {k : List Frame} {p : ℕ} {t : Tree} {y : List Sign} (m : Terminal) → Wants w k p y → Part (depth k) p y (sign m i ∷ x) t → (is_prefix t ≡ false → ends_open t ≡ false) → follow k p t m i ≡ Some z → Sound w z x
  follow_sound {k = k} {t = t} m b e q h = suffix_sound m (rest k t m i) b e (λ g j. rest_sound k m b e (λ s. q (g s)) j) h
