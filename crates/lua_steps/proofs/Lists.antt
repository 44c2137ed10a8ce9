-- Lists of parts, gone through from the front.
use Rattle.std.proofs.Common.{◌≡◌, ℕ, List, [], ◌∷◌, ◌++◌, refl, ◌∙◌}
use Rattle.lua_ast.specs.declared.node.Field.{Field}
use Rattle.lua_ast.specs.declared.node.Field.TheVariants as field
use Rattle.lua_ast.specs.Tree.{Tree, Trees, none, snoc, Cases, no_case, case, Fields, no_field}
use Rattle.lua_ast.specs.Decode.{list_after, list_of, cases_after, cases_of, with_field, fields_after, fields_of}
use Rattle.lua_meaning.specs.declared.value.Value.{Value}
use Rattle.lua_meaning.specs.declared.variable.Target.{Target}
use Rattle.lua_meaning.specs.Store.{Store, Resumptions, Result, Go, Halt}
use Rattle.lua_meaning.specs.Values.{first}
use Rattle.lua_meaning.specs.Code.{Code}
use Rattle.lua_meaning.specs.Runs.{Run, after}
use Rattle.lua_meaning.specs.Jobs.{Again}
use Rattle.lua_meaning.specs.Nodes.{eval, statements, each_first, expressions, targets_of, choose, each_field, all_fields}
use Rattle.lua_steps.specs.Parts.{run_all, more, begin_all, targets_from, choose_from, fields_from}

module _ {H : Type 0} (code : Code) (again : Again H) (part : ℕ → Tree) where
  statements_behind : (ts : Trees) (is : List ℕ) (k : Run H) (s : Store H) (r : Resumptions H) → statements code again (list_after part ts is) k s r ≡ statements code again ts (run_all code again part is k) s r
  unfolding statements
  statements_behind ts [] k s r = refl
  statements_behind ts (i ∷ is) k s r = statements_behind (snoc ts (part i)) is k s r

  pub statements_are : (is : List ℕ) (k : Run H) (s : Store H) (r : Resumptions H) → statements code again (list_of part is) k s r ≡ run_all code again part is k s r
  unfolding statements list_of
  statements_are is k s r = statements_behind none is k s r

  expressions_behind : (ts : Trees) (t : Tree) (is : List ℕ) (k : List Value → Run H) (s : Store H) (r : Resumptions H) →
      expressions code again (list_after part (snoc ts t) is) k s r ≡ each_first code again ts (λ vs s r. after (eval code again t s r) (more code again part vs is k)) s r
  unfolding expressions each_first
  expressions_behind ts t [] k s r = refl
  expressions_behind ts t (i ∷ is) k s r = expressions_behind (snoc ts t) (part i) is k s r

  pub expressions_are : (is : List ℕ) (k : List Value → Run H) (s : Store H) (r : Resumptions H) → expressions code again (list_of part is) k s r ≡ begin_all code again part [] is k s r
  unfolding expressions each_first list_of
  expressions_are [] k s r = refl
  expressions_are (i ∷ is) k s r = expressions_behind none (part i) is k s r

  targets_behind : (ts : Trees) (is : List ℕ) (k : List Target → Run H) (s : Store H) (r : Resumptions H) → targets_of code again (list_after part ts is) k s r ≡ targets_of code again ts (λ ps. targets_from code again part ps is k) s r
  unfolding targets_of
  targets_behind ts [] k s r = refl
  targets_behind ts (i ∷ is) k s r = targets_behind (snoc ts (part i)) is k s r

  pub targets_are : (is : List ℕ) (k : List Target → Run H) (s : Store H) (r : Resumptions H) → targets_of code again (list_of part is) k s r ≡ targets_from code again part [] is k s r
  unfolding targets_of list_of
  targets_are is k s r = targets_behind none is k s r

  cases_behind : (cs : Cases) (ts bs : List ℕ) (k : Run H) (s : Store H) (r : Resumptions H) → choose code again (cases_after part cs ts bs) k s r ≡ choose code again cs (choose_from code again part ts bs k) s r
  unfolding choose
  cases_behind cs [] bs k s r = refl
  cases_behind cs (t ∷ ts) [] k s r = refl
  cases_behind cs (t ∷ ts) (b ∷ bs) k s r = cases_behind (case cs (part t) (part b)) ts bs k s r

  pub cases_are : (ts bs : List ℕ) (k : Run H) (s : Store H) (r : Resumptions H) → choose code again (cases_of part ts bs) k s r ≡ choose_from code again part ts bs k s r
  unfolding choose cases_of
  cases_are ts bs k s r = cases_behind no_case ts bs k s r

  last_field : (before : Fields) (f : Field) (t l : ℕ) (k : Run H) (s : Store H) (r : Resumptions H) → all_fields code again (with_field part before f) t l k s r ≡ each_field code again before t l (λ c. fields_from code again part (f ∷ []) t c l k) s r
  unfolding each_field all_fields
  last_field before (field.Item v) t l k s r = refl
  last_field before (field.Named name v) t l k s r = refl
  last_field before (field.Keyed key v) t l k s r = refl

  other_field : (before : Fields) (f g : Field) (gs : List Field) (t l : ℕ) (k : Run H) (s : Store H) (r : Resumptions H) → each_field code again (with_field part before f) t l (λ c. fields_from code again part (g ∷ gs) t c l k) s r ≡ each_field code again before t l (λ c. fields_from code again part (f ∷ g ∷ gs) t c l k) s r
  unfolding each_field
  other_field before (field.Item v) g gs t l k s r = refl
  other_field before (field.Named name v) g gs t l k s r = refl
  other_field before (field.Keyed key v) g gs t l k s r = refl

  fields_behind : (before : Fields) (f : Field) (fs : List Field) (t l : ℕ) (k : Run H) (s : Store H) (r : Resumptions H) → all_fields code again (fields_after part (with_field part before f) fs) t l k s r ≡ each_field code again before t l (λ c. fields_from code again part (f ∷ fs) t c l k) s r
  fields_behind before f [] t l k s r = last_field before f t l k s r
  fields_behind before f (g ∷ gs) t l k s r = fields_behind (with_field part before f) g gs t l k s r ∙ other_field before f g gs t l k s r

  pub fields_are : (fs : List Field) (t l : ℕ) (k : Run H) (s : Store H) (r : Resumptions H) → all_fields code again (fields_of part fs) t l k s r ≡ fields_from code again part fs t 1 l k s r
  unfolding each_field all_fields fields_of
  fields_are [] t l k s r = refl
  fields_are (f ∷ fs) t l k s r = fields_behind no_field f fs t l k s r

  -- a value in front of all
  pub more_behind : (v : Value) (vs : List Value) (is : List ℕ) (k : List Value → Run H) (ws : List Value) (s : Store H) (r : Resumptions H) → more code again part vs is (λ xs. k (v ∷ xs)) ws s r ≡ more code again part (v ∷ vs) is k ws s r
  more_behind v vs [] k ws s r = refl
  more_behind v vs (i ∷ is) k ws s r = then (eval code again (part i) s r) (λ zs s r. more_behind v (vs ++ first ws ∷ []) is k zs s r)
    where
      then : (o : Result H) → ((zs : List Value) (s : Store H) (r : Resumptions H) → more code again part (vs ++ first ws ∷ []) is (λ xs. k (v ∷ xs)) zs s r ≡ more code again part (v ∷ vs ++ first ws ∷ []) is k zs s r) → after o (more code again part (vs ++ first ws ∷ []) is (λ xs. k (v ∷ xs))) ≡ after o (more code again part (v ∷ vs ++ first ws ∷ []) is k)
      then (Go zs s r) e = e zs s r
      then (Halt x s r) e = refl
