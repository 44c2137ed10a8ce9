-- The states that are reached stand for what was read.
use Rattle.std.specs.Prelude.{◌≡◌, ℕ, suc, Bool, true, List, [], ◌∷◌, Option, Some, None, refl}
use Rattle.std.proofs.Common.{subst, arith, inl}
use Rattle.lua_ast.specs.Tree as tree
use Rattle.lua_ast.specs.Tree.{Tree, Trees, none, Fields}
use Rattle.lua_grammar.specs.Kinds as kind
use Rattle.lua_grammar.specs.Signs.{Terminal, Attributes, Sign, sign}
use Rattle.lua_grammar.specs.Grammar.{Room, Apart, Names, one_name, more_names, Params, no_params, some_params, params_and_more, any_params, Path, path_name, path_dot, Exp, name, dot, no_args, no_commas, separated, Separated, Targets, label, goto, local, no_stats, returns_none, returns_none_semicolon}
use Rattle.lua_grammar.specs.Pushdown.{Begun, add, block_of, Callee, Purpose, Head, Frame, InParen, InKey, InTargets, InReturn, InFunction, Naming, ForLocalFunction, State, Need, NameNext, BlockNext, ParamFirst, Done, depth, begin, end_block, after_name, name_next, args_open, field_next, field_name, key_end, label_end, local_next, local_names, for_name, for_names, body_next, path_next, param_first, param_next, param_names, params_end, target_next, is_end, return_next, step_from, steps, initial}
use Rattle.lua_grammar.specs.Parses.{Whole}
use Rattle.lua_grammar.proofs.Contexts.{CalleeAt, method_at, Wants, in_paren, in_args, in_item, in_named, in_key, in_keyed, in_local, in_targets, in_return, in_first, in_iterator, TableAt, HeadAt, head_path, head_method, head_local, whole, in_function, At, at, Sound, stands_need, stands_have, stands_field, stands_method, stands_label, stands_goto, stands_variable, stands_variables, stands_function, stands_function_field, stands_function_method, stands_local_function, stands_local, stands_args_next, stands_args_open, stands_field_next, stands_field_name, stands_key_end, stands_block_next, stands_stat_next, stands_label_end, stands_local_next, stands_local_names, stands_loop_name, stands_loop_names, stands_path_next, stands_body_next, stands_param_first, stands_param_next, stands_param_names, stands_params_end, stands_target_next, stands_return_next, stands_block_end, stands_done, called_with, call_prefix}
use Rattle.lua_grammar.proofs.Sound.{some_is, apart_other, by_state, by_opened, plain_more, table_done, end_sound, next_sound, over_sound, begin_sound}
use Rattle.lua_grammar.proofs.Steps.{return_done, or_else, args_begin_sound, follow_sound}

module _ (w x : List Sign) (z : State) (i : Attributes) where
  name_sound : {n : Naming} {k : List Frame} → Sound w (NameNext n k) (sign kind.Name i ∷ x) → Sound w (after_name n k i) x
  name_sound (stands_field b e) = stands_have b (inl (dot e)) (λ e. cc)
  name_sound (stands_method b e) = stands_args_next b (method_at e)
  name_sound (stands_label a) = stands_label_end a
  name_sound (stands_goto a) = stands_stat_next (plain_more w x z a refl goto)
  name_sound (stands_variable a) = stands_loop_name a
  name_sound (stands_variables a n) = stands_loop_names a (more_names n)
  name_sound (stands_function a r) = stands_path_next a r path_name
  name_sound (stands_function_field a r p) = stands_path_next a r (path_dot p)
  name_sound (stands_function_method a r p) = stands_body_next (head_method a r p)
  name_sound (stands_local_function a r) = stands_body_next (head_local a r)
  name_sound (stands_local a n) = stands_local_names a (more_names n)

  name_next_sound : {n : Naming} {k : List Frame} (m : Terminal) → Sound w (NameNext n k) (sign m i ∷ x) → name_next n k m i ≡ Some z → Sound w z x
  name_next_sound kind.Name s h = by_state w x z h (name_sound s)
  name_next_sound _ s h = cc

  args_open_sound : {p : ℕ} {c : Callee} {j : Attributes} {k : List Frame} {y : List Sign} (m : Terminal) → Wants w k p y → CalleeAt (depth k) y (sign kind.OpenParen j ∷ sign m i ∷ x) c → Room (suc (depth k)) j.counted →
      args_open p c k m i ≡ Some z → Sound w z x
  args_open_sound {c = c} kind.CloseParen b a r h = by_state w x z h (stands_have b (inl (called_with a (no_args r))) (λ e. let q = call_prefix c none in cc))
  args_open_sound m b a r h = begin_sound w x z i m (in_args b a r no_commas) (omega arith) h

  field_next_sound : {u : Purpose} {l : ℕ} {fs : Fields} {k : List Frame} {y : List Sign} (m : Terminal) → TableAt w k u l y → Separated (suc (depth k)) y (sign m i ∷ x) fs → field_next u l fs k m i ≡ Some z → Sound w z x
  field_next_sound kind.CloseBrace a s h = by_state w x z h (table_done w x z a (separated s))
  field_next_sound kind.Name a s h = by_state w x z h (stands_field_name a s)
  field_next_sound {u = u} {l = l} {fs = fs} {k = k} kind.OpenBracket a s h = by_opened w x z (suc (depth k)) i (Need 0 (InKey u l fs ∷ k)) h (λ r. stands_need (in_key a s r) (omega arith))
  field_next_sound m a s h = begin_sound w x z i m (in_item a s) (omega arith) h

  field_name_sound : {u : Purpose} {l : ℕ} {fs : Fields} {n : Attributes} {k : List Frame} {y : List Sign} (m : Terminal) → TableAt w k u l y → Separated (suc (depth k)) y (sign kind.Name n ∷ sign m i ∷ x) fs →
      field_name u l fs n.line n.slice k m i ≡ Some z → Sound w z x
  field_name_sound kind.Assign a s h = by_state w x z h (stands_need (in_named a s) (omega arith))
  field_name_sound m a s h = follow_sound w x z i m (in_item a s) (inl name) (λ e. cc) h

  key_end_sound : {u : Purpose} {l : ℕ} {fs : Fields} {j n : Attributes} {t : Tree} {k : List Frame} {y v : List Sign} (m : Terminal) → TableAt w k u l y → Separated (suc (depth k)) y (sign kind.OpenBracket j ∷ v) fs → Room (suc (suc (depth k))) j.counted →
      Exp (suc (suc (depth k))) 0 v (sign kind.CloseBracket n ∷ sign m i ∷ x) t → key_end u l fs t k m ≡ Some z → Sound w z x
  key_end_sound kind.Assign a s r e h = by_state w x z h (stands_need (in_keyed a s r e) (omega arith))
  key_end_sound _ a s r e h = cc

  label_end_sound : {b : Begun} {o : Bool} {j n : Attributes} {k : List Frame} (m : Terminal) → At w k b o (sign kind.DoubleColon j ∷ sign kind.Name n ∷ sign m i ∷ x) → label_end j.line n.slice b k m ≡ Some z → Sound w z x
  label_end_sound kind.DoubleColon a h = by_state w x z h (stands_stat_next (plain_more w x z a refl label))
  label_end_sound _ a h = cc

  local_next_sound : {b : Begun} {o : Bool} {j : Attributes} {k : List Frame} (m : Terminal) → At w k b o (sign kind.Local j ∷ sign m i ∷ x) → local_next j.line b k m i ≡ Some z → Sound w z x
  local_next_sound kind.Name a h = by_state w x z h (stands_local_names a one_name)
  local_next_sound {b = b} {j = j} {k = k} kind.Function a h = by_opened w x z (depth k) i (NameNext (ForLocalFunction j.line i.line b) k) h (λ r. stands_local_function a r)
  local_next_sound _ a h = cc

  local_names_sound : {b : Begun} {o : Bool} {j : Attributes} {ns : List (List ℕ)} {k : List Frame} {y : List Sign} (m : Terminal) → At w k b o (sign kind.Local j ∷ y) → Names y (sign m i ∷ x) ns → local_names j.line ns b k m i ≡ Some z → Sound w z x
  local_names_sound kind.Comma a n h = by_state w x z h (stands_local a n)
  local_names_sound kind.Assign a n h = by_state w x z h (stands_need (in_local a n no_commas) (omega arith))
  local_names_sound {o = o} {j = j} {y = y} m a n h = over_sound w x z i m a (apart_other o kind.Local j y refl) (local n) (λ e. refl) h

  loop_name_sound : {b : Begun} {o : Bool} {j n : Attributes} {k : List Frame} (m : Terminal) → At w k b o (sign kind.For j ∷ sign kind.Name n ∷ sign m i ∷ x) → for_name j.line n.slice b k m ≡ Some z → Sound w z x
  loop_name_sound kind.Assign a h = by_state w x z h (stands_need (in_first a) (omega arith))
  loop_name_sound kind.Comma a h = by_state w x z h (stands_variables a one_name)
  loop_name_sound kind.In a h = by_state w x z h (stands_need (in_iterator a one_name no_commas) (omega arith))
  loop_name_sound _ a h = cc

  loop_names_sound : {b : Begun} {o : Bool} {j : Attributes} {ns : List (List ℕ)} {k : List Frame} {y : List Sign} (m : Terminal) → At w k b o (sign kind.For j ∷ y) → Names y (sign m i ∷ x) ns → for_names j.line ns b k m ≡ Some z → Sound w z x
  loop_names_sound kind.Comma a n h = by_state w x z h (stands_variables a n)
  loop_names_sound kind.In a n h = by_state w x z h (stands_need (in_iterator a n no_commas) (omega arith))
  loop_names_sound _ a n h = cc

  body_next_sound : {hd : Head} {k : List Frame} (m : Terminal) → HeadAt w k hd (sign m i ∷ x) → body_next hd k m i ≡ Some z → Sound w z x
  body_next_sound {hd = hd} {k = k} kind.OpenParen a h = by_opened w x z (suc (depth k)) i (ParamFirst hd k) h (λ r. stands_param_first a r)
  body_next_sound _ a h = cc

  path_next_sound : {b : Begun} {o : Bool} {j : Attributes} {t : Tree} {k : List Frame} {y : List Sign} (m : Terminal) → At w k b o (sign kind.Function j ∷ y) → Room (suc (depth k)) j.counted → Path y (sign m i ∷ x) t → path_next j.line t b k m i ≡ Some z → Sound w z x
  path_next_sound kind.Dot a r p h = by_state w x z h (stands_function_field a r p)
  path_next_sound kind.Colon a r p h = by_state w x z h (stands_function_method a r p)
  path_next_sound m a r p h = body_next_sound m (head_path a r p) h

  block_after : {hd : Head} {k : List Frame} {j : Attributes} {ns : List (List ℕ)} {more : Bool} {y : List Sign} → HeadAt w k hd (sign kind.OpenParen j ∷ y) → Room (suc (suc (depth k))) j.counted → Params y (sign kind.CloseParen i ∷ x) ns more →
      Sound w (BlockNext (InFunction hd ns more ∷ k)) x
  block_after a r ps = stands_block_next (in_function a r ps)

  param_first_sound : {hd : Head} {k : List Frame} {j : Attributes} (m : Terminal) → HeadAt w k hd (sign kind.OpenParen j ∷ sign m i ∷ x) → Room (suc (suc (depth k))) j.counted → param_first hd k m i ≡ Some z → Sound w z x
  param_first_sound kind.CloseParen a r h = by_state w x z h (block_after a r no_params)
  param_first_sound kind.Name a r h = by_state w x z h (stands_param_names a r one_name)
  param_first_sound kind.Ellipsis a r h = by_state w x z h (stands_params_end a r any_params)
  param_first_sound _ a r h = cc

  param_next_sound : {hd : Head} {k : List Frame} {j n : Attributes} {ns : List (List ℕ)} {y : List Sign} (m : Terminal) → HeadAt w k hd (sign kind.OpenParen j ∷ y) → Room (suc (suc (depth k))) j.counted → Names y (sign kind.Comma n ∷ sign m i ∷ x) ns →
      param_next hd ns k m i ≡ Some z → Sound w z x
  param_next_sound kind.Name a r n h = by_state w x z h (stands_param_names a r (more_names n))
  param_next_sound kind.Ellipsis a r n h = by_state w x z h (stands_params_end a r (params_and_more n))
  param_next_sound _ a r n h = cc

  param_names_sound : {hd : Head} {k : List Frame} {j : Attributes} {ns : List (List ℕ)} {y : List Sign} (m : Terminal) → HeadAt w k hd (sign kind.OpenParen j ∷ y) → Room (suc (suc (depth k))) j.counted → Names y (sign m i ∷ x) ns →
      param_names hd ns k m ≡ Some z → Sound w z x
  param_names_sound kind.Comma a r n h = by_state w x z h (stands_param_next a r n)
  param_names_sound kind.CloseParen a r n h = by_state w x z h (block_after a r (some_params n))
  param_names_sound _ a r n h = cc

  params_end_sound : {hd : Head} {k : List Frame} {j : Attributes} {ns : List (List ℕ)} {y : List Sign} (m : Terminal) → HeadAt w k hd (sign kind.OpenParen j ∷ y) → Room (suc (suc (depth k))) j.counted → Params y (sign m i ∷ x) ns true →
      params_end hd ns k m ≡ Some z → Sound w z x
  params_end_sound kind.CloseParen a r ps h = by_state w x z h (block_after a r ps)
  params_end_sound _ a r ps h = cc

  target_next_sound : {b : Begun} {o : Bool} {l : ℕ} {j : Attributes} {ts : Trees} {k : List Frame} {y : List Sign} (m : Terminal) → At w k b o y → Apart o y → Targets (depth k) l y (sign kind.Comma j ∷ sign m i ∷ x) ts →
      target_next l ts b k m i ≡ Some z → Sound w z x
  target_next_sound kind.Name a p vs h = by_state w x z h (stands_have (in_targets a p vs) (inl name) (λ e. cc))
  target_next_sound {b = b} {l = l} {ts = ts} {k = k} kind.OpenParen a p vs h = by_opened w x z (depth k) i (Need 0 (InParen 10 i.line ∷ InTargets l ts b ∷ k)) h (λ r. stands_need (in_paren (in_targets a p vs) r) (omega arith))
  target_next_sound _ a p vs h = cc

  return_next_sound : {b : Begun} {o : Bool} {j : Attributes} {k : List Frame} (m : Terminal) → At w k b o (sign kind.Return j ∷ sign m i ∷ x) → return_next j.line b k m i ≡ Some z → Sound w z x
  return_next_sound kind.Semicolon a h = let r = return_done w x z i a returns_none_semicolon in by_state w x z h (stands_block_end r.1 r.2)
  return_next_sound {b = b} {j = j} {k = k} m a h =
      or_else w x z i (is_end m) (end_block k (block_of (add b (tree.Return 0 j.line none))) m i) (begin 0 (InReturn j.line none b ∷ k) m i) h
      (λ _ g. let r = return_done w (sign m i ∷ x) z i a returns_none in end_sound w x z i m r.1 r.2 g)
      (λ _ g. begin_sound w x z i m (in_return a no_commas) (omega arith) g)

  step_sound : {o : State} (m : Terminal) → Sound w o (sign m i ∷ x) → step_from o m i ≡ Some z → Sound w z x
  step_sound m (stands_need b l) h = begin_sound w x z i m b l h
  step_sound m (stands_have b e q) h = follow_sound w x z i m b e q h
  step_sound m (stands_field b e) h = name_next_sound m (stands_field b e) h
  step_sound m (stands_method b e) h = name_next_sound m (stands_method b e) h
  step_sound m (stands_label a) h = name_next_sound m (stands_label a) h
  step_sound m (stands_goto a) h = name_next_sound m (stands_goto a) h
  step_sound m (stands_variable a) h = name_next_sound m (stands_variable a) h
  step_sound m (stands_variables a n) h = name_next_sound m (stands_variables a n) h
  step_sound m (stands_function a r) h = name_next_sound m (stands_function a r) h
  step_sound m (stands_function_field a r p) h = name_next_sound m (stands_function_field a r p) h
  step_sound m (stands_function_method a r p) h = name_next_sound m (stands_function_method a r p) h
  step_sound m (stands_local_function a r) h = name_next_sound m (stands_local_function a r) h
  step_sound m (stands_local a n) h = name_next_sound m (stands_local a n) h
  step_sound m (stands_args_next b a) h = args_begin_sound w x z i m b a h
  step_sound m (stands_args_open b a r) h = args_open_sound m b a r h
  step_sound m (stands_field_next a s) h = field_next_sound m a s h
  step_sound m (stands_field_name a s) h = field_name_sound m a s h
  step_sound m (stands_key_end a s r e) h = key_end_sound m a s r e h
  step_sound m (stands_block_next a) h = next_sound w x z i m (at a no_stats) tt h
  step_sound m (stands_stat_next a) h = next_sound w x z i m a tt h
  step_sound m (stands_label_end a) h = label_end_sound m a h
  step_sound m (stands_local_next a) h = local_next_sound m a h
  step_sound m (stands_local_names a n) h = local_names_sound m a n h
  step_sound m (stands_loop_name a) h = loop_name_sound m a h
  step_sound m (stands_loop_names a n) h = loop_names_sound m a n h
  step_sound m (stands_path_next a r p) h = path_next_sound m a r p h
  step_sound m (stands_body_next a) h = body_next_sound m a h
  step_sound m (stands_param_first a r) h = param_first_sound m a r h
  step_sound m (stands_param_next a r n) h = param_next_sound m a r n h
  step_sound m (stands_param_names a r n) h = param_names_sound m a r n h
  step_sound m (stands_params_end a r ps) h = params_end_sound m a r ps h
  step_sound m (stands_target_next a p vs) h = target_next_sound m a p vs h
  step_sound m (stands_return_next a) h = return_next_sound m a h
  step_sound m (stands_block_end a bl) h = end_sound w x z i m a bl h
  step_sound m (stands_done bl) h = cc

pub nothing : (x : List Sign) → steps x None ≡ None
nothing [] = refl
nothing (s ∷ x) = nothing x

go : (w x : List Sign) (z : State) (n : Option State) → ((o : State) → n ≡ Some o → steps x (Some o) ≡ Some z → Sound w z []) → steps x n ≡ Some z → Sound w z []
go w x z None f h = absurd (let e = nothing x in cc)
go w x z (Some o) f h = f o refl h

steps_sound : (w x : List Sign) (o z : State) → Sound w o x → steps x (Some o) ≡ Some z → Sound w z []
steps_sound w [] o z a h = subst (λ z. Sound w z []) (some_is h) a
steps_sound w (sign m i ∷ x) o z a h = go w x z (step_from o m i) (λ o' e g. steps_sound w x o' z (step_sound w x o' i m a e) g) h

-- What is reached stands for what was read.
pub sound : (w : List Sign) (z : State) → steps w initial ≡ Some z → Sound w z []
sound w z h = steps_sound w w (BlockNext []) z (stands_block_next whole) h

done_is : (w : List Sign) (t : Tree) → Sound w (Done t) [] → Whole w t
done_is w t (stands_done {i = i} bl) = (i, bl)

-- What is accepted is a text with its tree.
pub accepts : (w : List Sign) (t : Tree) → steps w initial ≡ Some (Done t) → Whole w t
accepts w t h = done_is w t (sound w (Done t) h)
