-- The computed reading is the one that there is.
use Rattle.std.specs.Prelude.{◌≡◌, ℕ, zero, suc, true, List, [], ◌∷◌, ◌++◌, Option, Some, None, refl, take, drop, slice_get}
use Rattle.std.proofs.Common.{◌∙◌, ap, subst}
use Rattle.lua_lexer.specs.declared.token.Token.{Token}
use Rattle.lua_grammar.specs.Pushdown.{State, BlockNext, Done, step, steps, initial}
use Rattle.lua_grammar.specs.Parses.{counted, uncounted, signs, end_sign, Reading, Reads}
use Rattle.lua_grammar.specs.Deciding.{run, step_by, reading_at_end, reading_by, reading_from, reading}
use Rattle.lua_grammar.proofs.Reached.{accepts}
use Rattle.lua_grammar.proofs.Ending.{IsDone, end_done}
use Rattle.lua_grammar.proofs.Runs.{starts, run_last, take_snoc, one_reading, refused_at, disallowed_at, ended_none}

slice_get-drop : (ts : List Token) (n : ℕ) (t : Token) (us : List Token) → drop n ts ≡ t ∷ us → slice_get ts n ≡ Some t
slice_get-drop [] zero t us h = cc
slice_get-drop [] (suc n) t us h = cc
slice_get-drop (u ∷ ts) zero t us h = cc
slice_get-drop (u ∷ ts) (suc n) t us h = slice_get-drop ts n t us h

drop-suc : (ts : List Token) (n : ℕ) (t : Token) (us : List Token) → drop n ts ≡ t ∷ us → drop (suc n) ts ≡ us
drop-suc [] zero t us h = cc
drop-suc [] (suc n) t us h = cc
drop-suc (u ∷ ts) zero t us h = cc
drop-suc (u ∷ ts) (suc n) t us h = drop-suc ts n t us h

take-all : (ts : List Token) (n : ℕ) → drop n ts ≡ [] → take n ts ≡ ts
take-all [] zero h = refl
take-all [] (suc n) h = refl
take-all (u ∷ ts) zero h = cc
take-all (u ∷ ts) (suc n) h = ap (λ y. u ∷ y) (take-all ts n h)

end_reads : (text : List ℕ) (ts : List Token) (o : State) → run text ts ≡ Some o → (n : Option State) → step (Some o) end_sign ≡ n → Reads text ts (reading_at_end n)
end_reads text ts o h None e = ended_none text ts o h e
end_reads text ts o h (Some z) e = by z e (end_done o (record { counted = true; line = 1; slice = [] }) z e) where
  by : (z : State) → step (Some o) end_sign ≡ Some z → IsDone z → Reads text ts (reading_at_end (Some z))
  by (Done t) e d = accepts (signs text ts ++ end_sign ∷ []) t (run_last (signs text ts) end_sign o h ∙ e)
  by _ e d = absurd d

refused_reads : (text : List ℕ) (ts : List Token) (n : ℕ) (o : State) (t : Token) → slice_get ts n ≡ Some t → run text (take n ts) ≡ Some o →
    step (Some o) (counted text t) ≡ None → (r : Option State) → step (Some o) (uncounted text t) ≡ r → (further : State → Reading) → Reads text ts (reading_by (step_by None r) n further)
refused_reads text ts n o t g h f None e further = record { refused = refused_at text ts n t o g h f; disallowed = disallowed_at text ts n t o g h e }
refused_reads text ts n o t g h f (Some z) e further =
    record { refused = refused_at text ts n t o g h f; allowed = (t, g, starts (signs text (take n ts) ++ uncounted text t ∷ []) z (run_last (signs text (take n ts)) (uncounted text t) o h ∙ e)) }

-- One token more.
pub run_more : (text : List ℕ) (ts : List Token) (n : ℕ) (o z : State) (t : Token) → slice_get ts n ≡ Some t → run text (take n ts) ≡ Some o → step (Some o) (counted text t) ≡ Some z → run text (take (suc n) ts) ≡ Some z
run_more text ts n o z t g h e = ap (λ y. steps y initial) (take_snoc text ts n t g) ∙ run_last (signs text (take n ts)) (counted text t) o h ∙ e

module _ (text : List ℕ) (ts : List Token) where
  reads_from : (us : List Token) (n : ℕ) (o : State) → drop n ts ≡ us → run text (take n ts) ≡ Some o → Reads text ts (reading_from text us n o)
  reads_from [] n o d h = end_reads text ts o (subst (λ vs. run text vs ≡ Some o) (take-all ts n d) h) (step (Some o) end_sign) refl
  reads_from (t ∷ us) n o d h =
      let g = slice_get-drop ts n t us d in
      by (step (Some o) (counted text t)) g refl (λ z e. reads_from us (suc n) z (drop-suc ts n t us d) (run_more text ts n o z t g h e))
    where
      by : (r : Option State) → slice_get ts n ≡ Some t → step (Some o) (counted text t) ≡ r → ((z : State) → step (Some o) (counted text t) ≡ Some z → Reads text ts (reading_from text us (suc n) z)) →
          Reads text ts (reading_by (step_by r (step (Some o) (uncounted text t))) n (λ p. reading_from text us (suc n) p))
      by (Some z) g e further = further z e
      by None g e further = refused_reads text ts n o t g h e (step (Some o) (uncounted text t)) refl (λ p. reading_from text us (suc n) p)

-- The reading that the automaton computes holds.
pub reads : (text : List ℕ) (ts : List Token) → Reads text ts (reading text ts)
unfolding reading
reads text ts = reads_from text ts ts 0 (BlockNext []) refl refl

-- And it is the only one.
pub the_reading : (text : List ℕ) (ts : List Token) (r : Reading) → Reads text ts r → r ≡ reading text ts
the_reading text ts r h = one_reading text ts r (reading text ts) h (reads text ts)
