-- What the automaton says of a list of tokens: each has exactly one reading.
use Rattle.std.specs.Prelude.{◌≡◌, ℕ, zero, suc, ◌<◌, ◌≤◌, List, [], ◌∷◌, ◌++◌, Option, Some, None, refl, take, length, slice_get}
use Rattle.std.proofs.Common.{sym, ◌∙◌, ap, subst, arith, inl, inr, ◌⊎◌}
use Rattle.lua_lexer.specs.declared.token.Token.{Token}
use Rattle.lua_ast.specs.Tree.{Tree}
use Rattle.lua_grammar.specs.Signs.{Terminal, Sign}
use Rattle.lua_grammar.specs.Pushdown.{State, Need, Done, step, steps, initial}
use Rattle.lua_grammar.specs.Parses.{counted, uncounted, signs, end_sign, Whole, Parses, frees, Starts, Begins, IsRefused, IsAllowed, IsUnfinished, Reading, parsed, unexpected, too_deep, unfinished, Reads}
use Rattle.lua_grammar.specs.Deciding.{run}
use Rattle.lua_grammar.proofs.Complete.{accepted}
use Rattle.lua_grammar.proofs.Sound.{some_is}
use Rattle.lua_grammar.proofs.Reached.{nothing, sound, accepts}
use Rattle.lua_grammar.proofs.Endings.{CanEnd, can_end}

steps-append : (x y : List Sign) (o : Option State) → steps (x ++ y) o ≡ steps y (steps x o)
steps-append [] y o = refl
steps-append (s ∷ x) y o = steps-append x y (step o s)

append-nil : (x : List Sign) → x ++ [] ≡ x
append-nil [] = refl
append-nil (s ∷ x) = ap (λ y. s ∷ y) (append-nil x)

-- What has one tree.
pub one_tree : (x : List Sign) (s t : Tree) → Whole x s → Whole x t → s ≡ t
one_tree x s t p q = let e = accepted x s p in let f = accepted x t q in cc

-- Signs whose levels don't count make a whole text of it.
abbrev pub Completed : List Sign → Type 0
Completed x = (more : List Terminal) × (t : Tree) × Whole (x ++ frees more) t

started : (x : List Sign) → Starts x → steps x initial ≡ None → ⊥
started x (y, t, p) h = let e = accepted (x ++ y) t p in let f = steps-append x y initial ∙ ap (steps y) h ∙ nothing y in cc

done_completed : (x : List Sign) (t : Tree) → steps x initial ≡ Some (Done t) → Completed x
done_completed x t h = ([], t, subst (λ y. Whole y t) (sym (append-nil x)) (accepts x t h))

completed_by : (x : List Sign) (o : State) → steps x initial ≡ Some o → CanEnd o → Completed x
completed_by x o h e = (e.more, e.tree, accepts (x ++ frees e.more) e.tree (steps-append x (frees e.more) initial ∙ ap (steps (frees e.more)) h ∙ e.ends))

completed_from : (x : List Sign) (o : State) → steps x initial ≡ Some o → Completed x
completed_from x (Done t) h = done_completed x t h
completed_from x (Need p k) h = completed_by x (Need p k) h (can_end x (sound x (Need p k) h) (λ t e. cc))
completed_from x o h = completed_by x o h (can_end x (sound x o h) (λ t e. cc))

-- What is reached begins a text.
pub starts : (x : List Sign) (o : State) → steps x initial ≡ Some o → Starts x
starts x o h = let c = completed_from x o h in (frees c.0, c.1, c.2)

completed_at : (x : List Sign) (n : Option State) → steps x initial ≡ n → Starts x → Completed x
completed_at x None h s = absurd (started x s h)
completed_at x (Some o) h s = completed_from x o h

-- What begins a text is completed by signs whose levels don't count.
pub completed : (x : List Sign) → Starts x → Completed x
completed x s = completed_at x (steps x initial) refl s

-- A step more.
step_of : (o : Option State) (z : State) (s : Sign) → o ≡ Some z → step o s ≡ step (Some z) s
step_of o z s e = ap (λ o. step o s) e

pub run_last : (x : List Sign) (s : Sign) (z : State) → steps x initial ≡ Some z → steps (x ++ s ∷ []) initial ≡ step (Some z) s
run_last x s z e = steps-append x (s ∷ []) initial ∙ step_of (steps x initial) z s e

-- The tokens up to a place, and the one there.
pub take_snoc : (text : List ℕ) (ts : List Token) (place : ℕ) (t : Token) → slice_get ts place ≡ Some t → signs text (take (suc place) ts) ≡ signs text (take place ts) ++ counted text t ∷ []
take_snoc text [] place t h = cc
take_snoc text (u ∷ ts) zero t h = ap (λ v. counted text v ∷ []) (some_is h)
take_snoc text (u ∷ ts) (suc place) t h = ap (λ y. counted text u ∷ y) (take_snoc text ts place t h)

within_is : (ts : List Token) (place : ℕ) → place < length ts → (t : Token) × (slice_get ts place ≡ Some t)
within_is [] place h = absurd (omega (arith, h))
within_is (u ∷ ts) zero h = (u, refl)
within_is (u ∷ ts) (suc place) h = within_is ts place (omega arith)

is_within : (ts : List Token) (place : ℕ) (t : Token) → slice_get ts place ≡ Some t → place < length ts
is_within [] place t h = cc
is_within (u ∷ ts) zero t h = omega arith
is_within (u ∷ ts) (suc place) t h = let r = is_within ts place t h in omega arith

-- The tokens of a text begin one, up to each place.
take_apart : (text : List ℕ) (ts : List Token) (n : ℕ) → (y : List Sign) × (signs text ts ≡ signs text (take n ts) ++ y)
take_apart text ts zero = (signs text ts, refl)
take_apart text [] (suc n) = ([], refl)
take_apart text (t ∷ ts) (suc n) = let r = take_apart text ts n in (r.0, ap (λ y. counted text t ∷ y) r.1)

append-assoc : (x y z : List Sign) → (x ++ y) ++ z ≡ x ++ (y ++ z)
append-assoc [] y z = refl
append-assoc (s ∷ x) y z = ap (λ y. s ∷ y) (append-assoc x y z)

pub starts_before : (x y : List Sign) → Starts (x ++ y) → Starts x
starts_before x y (more, t, w) = (y ++ more, t, subst (λ z. Whole z t) (append-assoc x y more) w)

pub begins_before : (text : List ℕ) (ts : List Token) (n : ℕ) → Begins text ts → Begins text (take n ts)
begins_before text ts n b = let r = take_apart text ts n in starts_before (signs text (take n ts)) r.0 (subst Starts r.1 b)

pub parses_begins : (text : List ℕ) (ts : List Token) (t : Tree) → Parses text ts t → Begins text ts
parses_begins text ts t w = (end_sign ∷ [], t, w)

take_take : (ts : List Token) (n m : ℕ) → n ≤ m → take n (take m ts) ≡ take n ts
take_take ts zero m h = refl
take_take [] (suc n) zero h = refl
take_take [] (suc n) (suc m) h = refl
take_take (t ∷ ts) (suc n) zero h = absurd (omega arith)
take_take (t ∷ ts) (suc n) (suc m) h = ap (λ y. t ∷ y) (take_take ts n m (omega arith))

pub begins_up_to : (text : List ℕ) (ts : List Token) (n m : ℕ) → n ≤ m → Begins text (take m ts) → Begins text (take n ts)
begins_up_to text ts n m h b = subst (Begins text) (take_take ts n m h) (begins_before text (take m ts) n b)

-- One place at most is refused.
pub one_place : (text : List ℕ) (ts : List Token) (a b : ℕ) → IsRefused text ts a → IsRefused text ts b → a ≡ b
one_place text ts a b p q = by (lt_or a b) where
  lt_or : (a b : ℕ) → (a < b) ⊎ ((b < a) ⊎ (a ≡ b))
  lt_or a b = grind arith

  by : (a < b) ⊎ ((b < a) ⊎ (a ≡ b)) → a ≡ b
  by (inl h) = absurd (p.after (begins_up_to text ts (suc a) b h q.before))
  by (inr (inl h)) = absurd (q.after (begins_up_to text ts (suc b) a h p.before))
  by (inr (inr e)) = e

pub refused_begins_not : (text : List ℕ) (ts : List Token) (place : ℕ) → IsRefused text ts place → Begins text ts → ⊥
refused_begins_not text ts place r b = r.after (begins_before text ts (suc place) b)

-- One reading at most.
pub one_reading : (text : List ℕ) (ts : List Token) (r s : Reading) → Reads text ts r → Reads text ts s → r ≡ s
one_reading text ts (parsed t) (parsed u) p q = ap parsed (one_tree (signs text ts ++ end_sign ∷ []) t u p q)
one_reading text ts (parsed t) (unexpected b) p q = absurd (refused_begins_not text ts b q.refused (parses_begins text ts t p))
one_reading text ts (parsed t) (too_deep b) p q = absurd (refused_begins_not text ts b q.refused (parses_begins text ts t p))
one_reading text ts (parsed t) unfinished p q = absurd (q.unfinished t p)
one_reading text ts (unexpected a) (parsed t) p q = absurd (refused_begins_not text ts a p.refused (parses_begins text ts t q))
one_reading text ts (unexpected a) (unexpected b) p q = ap unexpected (one_place text ts a b p.refused q.refused)
one_reading text ts (unexpected a) (too_deep b) p q = absurd (p.disallowed (subst (IsAllowed text ts) (sym (one_place text ts a b p.refused q.refused)) q.allowed))
one_reading text ts (unexpected a) unfinished p q = absurd (refused_begins_not text ts a p.refused q.begins)
one_reading text ts (too_deep a) (parsed t) p q = absurd (refused_begins_not text ts a p.refused (parses_begins text ts t q))
one_reading text ts (too_deep a) (unexpected b) p q = absurd (q.disallowed (subst (IsAllowed text ts) (one_place text ts a b p.refused q.refused) p.allowed))
one_reading text ts (too_deep a) (too_deep b) p q = ap too_deep (one_place text ts a b p.refused q.refused)
one_reading text ts (too_deep a) unfinished p q = absurd (refused_begins_not text ts a p.refused q.begins)
one_reading text ts unfinished (parsed t) p q = absurd (p.unfinished t q)
one_reading text ts unfinished (unexpected b) p q = absurd (refused_begins_not text ts b q.refused p.begins)
one_reading text ts unfinished (too_deep b) p q = absurd (refused_begins_not text ts b q.refused p.begins)
one_reading text ts unfinished unfinished p q = refl

-- What a run says where it stops, and where it comes to the end.
pub refused_at : (text : List ℕ) (ts : List Token) (place : ℕ) (t : Token) (z : State) → slice_get ts place ≡ Some t → run text (take place ts) ≡ Some z → step (Some z) (counted text t) ≡ None → IsRefused text ts place
refused_at text ts place t z g h f = record { before = starts (signs text (take place ts)) z h; within = is_within ts place t g; after = λ b. started (signs text (take place ts) ++ counted text t ∷ []) (subst Starts (take_snoc text ts place t g) b) (run_last (signs text (take place ts)) (counted text t) z h ∙ f) }

pub disallowed_at : (text : List ℕ) (ts : List Token) (place : ℕ) (t : Token) (z : State) → slice_get ts place ≡ Some t → run text (take place ts) ≡ Some z → step (Some z) (uncounted text t) ≡ None → IsAllowed text ts place → ⊥
disallowed_at text ts place t z g h f (u, g', s) =
    started (signs text (take place ts) ++ uncounted text u ∷ []) s (run_last (signs text (take place ts)) (uncounted text u) z h ∙ ap (λ v. step (Some z) (uncounted text v)) (some_is (sym g' ∙ g)) ∙ f)

pub ended_none : (text : List ℕ) (ts : List Token) (o : State) → run text ts ≡ Some o → step (Some o) end_sign ≡ None → IsUnfinished text ts
ended_none text ts o h e = record { begins = starts (signs text ts) o h; unfinished = λ t w. let a = accepted (signs text ts ++ end_sign ∷ []) t w in let b = run_last (signs text ts) end_sign o h ∙ e in cc }
