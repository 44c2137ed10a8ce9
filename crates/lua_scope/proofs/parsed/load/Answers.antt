use Rattle.std.proofs.Common.{◌≡◌, ◌≤◌, ℕ, List, [], length, Option, None, sym, ap, subst, ◌∙◌}
use Rattle.std.proofs.lemmas.Result.{err_from_is_err_and}
use Rattle.lua_scope.specs.declared.load_error.LoadError.{LoadError}
use Rattle.lua_scope.specs.Walk.{walked}
use Rattle.lua_scope.specs.Refusals.{first_refusal}
use Rattle.lua_scope.specs.OfChunk.{occurrences_of}
use Rattle.lua_ast.specs.Decode.{ChunkNodes}
use Rattle.lua_parser.specs.Parsing.{tree_of}
use Rattle.lua_scope.specs.Loads.{most_text, HasTokensOf, LoadsAs, IsLoadFailure}
use Rattle.lua_scope.specs.Resolved.{IsFirstRefusal}
use Rattle.lua_scope.proofs.Loading.{same_refusals, rule_fails}
use Rattle.lua_scope.proofs.parsed.load.Goals as goal

-- what loads
loaded : (text : List ℕ) (c : ChunkNodes) → length text ≤ most_text → HasTokensOf text (tree_of c) → first_refusal (occurrences_of c) ≡ None → LoadsAs text (tree_of c)
loaded text c le has clear = record { short = le; is_text = has; clear = same_refusals c ∙ clear }

pub invariant_of-result : goal.invariant_of-result
invariant_of-result c =
    let le : length c.args.text.items ≤ most_text = subst (λ (n : ℕ). n ≤ 1048576) (ap length c.as_slice-bytes.ensures.value) c.if-bytes-gt-MOST_TEXT.false in
    let has : HasTokensOf c.args.text.items (tree_of c.in_ok-chunk.chunk) = subst (λ (bytes : List ℕ). HasTokensOf bytes (tree_of c.in_ok-chunk.chunk)) c.as_slice-bytes.ensures.value c.in_ok-chunk.ensures.chunk in
    (loaded c.args.text.items c.in_ok-chunk.chunk le has c.in_ok-tables.ensures.loads, c.in_ok-chunk.ensures.once, c.in_ok-tables.ensures.tables, c.in_ok-chunk.ensures.numbered)

pub returns-clause-tree : goal.returns-clause-tree
returns-clause-tree c =
    let le : length c.args.text.items ≤ most_text = subst (λ (n : ℕ). n ≤ 1048576) (ap length c.as_slice-bytes.ensures.value) c.if-bytes-gt-MOST_TEXT.false in
    let has : HasTokensOf c.args.text.items (tree_of c.in_ok-chunk.chunk) = subst (λ (bytes : List ℕ). HasTokensOf bytes (tree_of c.in_ok-chunk.chunk)) c.as_slice-bytes.ensures.value c.in_ok-chunk.ensures.chunk in
    loaded c.args.text.items c.in_ok-chunk.chunk le has c.in_ok-tables.ensures.loads

pub returns-clause-loads : goal.returns-clause-loads
returns-clause-loads c =
    let le : length c.args.text.items ≤ most_text = subst (λ (n : ℕ). n ≤ 1048576) (ap length c.as_slice-bytes.ensures.value) c.if-bytes-gt-MOST_TEXT.false in
    let has : HasTokensOf c.args.text.items (tree_of c.in_ok-chunk.chunk) = subst (λ (bytes : List ℕ). HasTokensOf bytes (tree_of c.in_ok-chunk.chunk)) c.as_slice-bytes.ensures.value c.in_ok-chunk.ensures.chunk in
    (tree_of c.in_ok-chunk.chunk, loaded c.args.text.items c.in_ok-chunk.chunk le has c.in_ok-tables.ensures.loads)

pub returns-in_err-tables-clause-fails : goal.returns-in_err-tables-clause-fails
returns-in_err-tables-clause-fails c =
    let le : length c.args.text.items ≤ most_text = subst (λ (n : ℕ). n ≤ 1048576) (ap length c.as_slice-bytes.ensures.value) c.if-bytes-gt-MOST_TEXT.false in
    let has : HasTokensOf c.args.text.items (tree_of c.in_ok-chunk.chunk) = subst (λ (bytes : List ℕ). HasTokensOf bytes (tree_of c.in_ok-chunk.chunk)) c.as_slice-bytes.ensures.value c.in_ok-chunk.ensures.chunk in
    let first : IsFirstRefusal (first_refusal (walked [] (tree_of c.in_ok-chunk.chunk))) c.in_err-tables.field-0.0 =
    subst (λ (first : Option LoadError). IsFirstRefusal first c.in_err-tables.field-0.0) (sym (same_refusals c.in_ok-chunk.chunk)) c.in_err-tables.ensures.refused in
    let refused = err_from_is_err_and c.from_residual-in_err-tables.result c.from_residual-in_err-tables.ensures.1 in
    rw refused.1
    (subst (λ (e : LoadError). IsLoadFailure c.args.text.items e) (sym refused.2) (rule_fails c.args.text.items c.in_err-tables.field-0.0 (tree_of c.in_ok-chunk.chunk) le has first))
