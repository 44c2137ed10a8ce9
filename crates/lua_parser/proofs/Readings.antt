-- The reading of the rest of a text.
use Rattle.std.specs.Prelude.{◌≡◌, ℕ, zero, suc, ◌<◌, ◌≤◌, ◌+◌, true, is_some, List, [], ◌∷◌, drop, length, slice_get, Option, Some, None, Result, Ok, Err, IfOk, IfErr, All, refl}
use Rattle.std.proofs.Common.{ap, sym, subst, ◌∙◌, arith, add-one, get_or}
use Rattle.std.proofs.lemmas.Option.{slice_get-get_or, slice_get_within, get_or_from_slice_get}
use Rattle.lua_ast.specs.Tree.{Tree}
use Rattle.lua_ast.specs.Decode.{ChunkNodes}
use Rattle.lua_lexer.specs.declared.token.Token.{Token}
use Rattle.lua_lexer.specs.declared.token.TokenKind.TheVariants.{Numeral}
use Rattle.lua_lexer.specs.declared.token.TokenKind.{TokenKind}
use Rattle.lua_lexer.specs.Spells.{Spells}
use Rattle.lua_lexer.specs.Numerals.{numeral_value}
use Rattle.lua_lexer.specs.Lexes.{IsInOrder, IsSpelled, slice_of}
use Rattle.lua_grammar.specs.Pushdown.{State, step}
use Rattle.lua_grammar.specs.Parses.{counted, uncounted, Reading, parsed, unexpected, too_deep, unfinished, Reads, Parses}
use Rattle.lua_grammar.specs.Deciding.{step_by, reading_by, reading_from, reading}
use Rattle.lua_grammar.proofs.Decides.{reads, the_reading}
use Rattle.lua_parser.specs.declared.parse_error.ParseError.{ParseError}
use Rattle.lua_parser.specs.declared.parse_error.ParseError.TheVariants as error
use Rattle.lua_parser_state.specs.declared.refusal.Refusal.{Refusal}
use Rattle.lua_parser_state.specs.declared.refusal.Refusal.TheVariants as refusal
use Rattle.lua_parser_state.specs.Gave.{Refuses}
use Rattle.lua_parser.specs.Parsing.{tree_of, HasTree, IsRefusal, HasReading, AreFit, refusal_at}

drop_at : (ts : List Token) (i : ℕ) (t : Token) → slice_get ts i ≡ Some t → drop i ts ≡ t ∷ drop (suc i) ts
drop_at [] zero t h = absurd cc
drop_at [] (suc i) t h = absurd cc
drop_at (u ∷ ts) zero t h = let same : u ≡ t = cc in ap (λ (x : Token). x ∷ ts) same
drop_at (u ∷ ts) (suc i) t h = drop_at ts i t h

pub drop_all : (ts : List Token) (i : ℕ) → length ts ≤ i → drop i ts ≡ []
drop_all [] zero h = refl
drop_all [] (suc i) h = refl
drop_all (u ∷ ts) zero h = absurd (omega arith)
drop_all (u ∷ ts) (suc i) h = drop_all ts i (omega arith)

pub here : (ts : List Token) (i : ℕ) (t : Token) → i < length ts → t ≡ get_or ts i t → slice_get ts i ≡ Some t
here ts i t h e = slice_get-get_or ts i t h ∙ ap (λ (x : Token). Some x) (sym e)

module _ (text : List ℕ) (ts : List Token) (i : ℕ) (t : Token) (at : slice_get ts i ≡ Some t) (o : State) where
  pub goes_on : (z : State) → step (Some o) (counted text t) ≡ Some z → reading_from text (drop i ts) i o ≡ reading_from text (drop (i + 1) ts) (i + 1) z
  goes_on z e =
      ap (λ (us : List Token). reading_from text us i o) (drop_at ts i t at)
      ∙ ap (λ (c : Option State). reading_by (step_by c (step (Some o) (uncounted text t))) i (λ p. reading_from text (drop (suc i) ts) (suc i) p)) e
      ∙ ap (λ (n : ℕ). reading_from text (drop n ts) n z) (sym (add-one i))

  first : (c f : Option State) → step (Some o) (counted text t) ≡ c → step (Some o) (uncounted text t) ≡ f →
      reading_from text (drop i ts) i o ≡ reading_by (step_by c f) i (λ p. reading_from text (drop (suc i) ts) (suc i) p)
  first c f e h =
      ap (λ (us : List Token). reading_from text us i o) (drop_at ts i t at)
      ∙ ap (λ (c : Option State). reading_by (step_by c (step (Some o) (uncounted text t))) i (λ p. reading_from text (drop (suc i) ts) (suc i) p)) e
      ∙ ap (λ (f : Option State). reading_by (step_by c f) i (λ p. reading_from text (drop (suc i) ts) (suc i) p)) h

  deep : (f : Option State) → is_some f ≡ true → step (Some o) (counted text t) ≡ None → step (Some o) (uncounted text t) ≡ f → reading_from text (drop i ts) i o ≡ too_deep i
  deep None h e g = absurd cc
  deep (Some z) h e g = first None (Some z) e g

  pub stops : (r : Reading) → r ≡ reading_from text (drop i ts) i o → (e : Refusal) → Refuses (step (Some o) (counted text t)) (step (Some o) (uncounted text t)) e → HasReading text ts r (Err (refusal_at e t.start))
  stops r same refusal.NoMemory h = tt
  stops r same refusal.Unexpected h = (i, t, at, refl, same ∙ first None None h.0 h.1)
  stops r same refusal.TooDeep h = (i, t, at, refl, same ∙ deep (step (Some o) (uncounted text t)) h.1 h.0 refl)

-- The answer is what the grammar says.
pub answers_tree : (text : List ℕ) (ts : List Token) (r : Result ChunkNodes ParseError) → HasReading text ts (reading text ts) r → (t : Tree) → Parses text ts t → HasTree t r
answers_tree text ts (Ok c) h t p = let same : parsed t ≡ parsed (tree_of c) = the_reading text ts (parsed t) p ∙ h in cc
answers_tree text ts (Err error.NoMemory) h t p = tt
answers_tree text ts (Err (error.Unexpected at)) h t p = let same : parsed t ≡ unexpected h.0 = the_reading text ts (parsed t) p ∙ h.4 in absurd cc
answers_tree text ts (Err (error.TooDeep at)) h t p = let same : parsed t ≡ too_deep h.0 = the_reading text ts (parsed t) p ∙ h.4 in absurd cc
answers_tree text ts (Err (error.EndOfText len)) h t p = let same : parsed t ≡ unfinished = the_reading text ts (parsed t) p ∙ h.1 in absurd cc

pub answers_parsed : (text : List ℕ) (ts : List Token) (c : ChunkNodes) → HasReading text ts (reading text ts) (Ok c) → Parses text ts (tree_of c)
answers_parsed text ts c h = subst (λ (r : Reading). Reads text ts r) h (reads text ts)

pub answers_refusal : (text : List ℕ) (ts : List Token) (e : ParseError) → HasReading text ts (reading text ts) (Err e) → IsRefusal text ts e
answers_refusal text ts error.NoMemory h = tt
answers_refusal text ts (error.Unexpected at) h = (h.0, h.1, h.2, h.3, subst (λ (r : Reading). Reads text ts r) h.4 (reads text ts))
answers_refusal text ts (error.TooDeep at) h = (h.0, h.1, h.2, h.3, subst (λ (r : Reading). Reads text ts r) h.4 (reads text ts))
answers_refusal text ts (error.EndOfText len) h = (h.0, subst (λ (r : Reading). Reads text ts r) h.1 (reads text ts))

-- Tokens in order lie within the text.
order_end : (from len : ℕ) (ts : List Token) → IsInOrder from len ts → from ≤ len
order_end from len [] h = h
order_end from len (t ∷ ts) h = let rest = order_end t.end len ts h.2 in omega (arith, h.0, h.1, rest)

order_at : (from len : ℕ) (ts : List Token) → IsInOrder from len ts → (i : ℕ) (t : Token) → slice_get ts i ≡ Some t → (t.start ≤ t.end) × (t.end ≤ len)
order_at from len [] h zero t e = absurd cc
order_at from len [] h (suc i) t e = absurd cc
order_at from len (u ∷ ts) h zero t e =
    let same : u ≡ t = cc in
    subst (λ (x : Token). (x.start ≤ x.end) × (x.end ≤ len)) same (let lt = h.1 in omega arith, order_end u.end len ts h.2)
order_at from len (u ∷ ts) h (suc i) t e = order_at u.end len ts h.2 i t e

pub are_fit : (text : List ℕ) (ts : List Token) → IsInOrder 0 (length text) ts → All (IsSpelled text) ts → ((s : List ℕ) → Spells Numeral s → numeral_value s ≤ 9223372036854775807) → AreFit text ts
are_fit text ts order spelled small i t at =
    let o = order_at 0 (length text) ts order i t at in
    let s : IsSpelled text t = subst (λ (x : Token). IsSpelled text x) (get_or_from_slice_get ts i t t at) (spelled i t (slice_get_within ts i t at)) in
    record { ordered = o.0; within = o.1; small = λ e. small (slice_of text t) (subst (λ (k : TokenKind). Spells k (slice_of text t)) e s) }

pub answers_ok : (text : List ℕ) (ts : List Token) (r : Result ChunkNodes ParseError) → HasReading text ts (reading text ts) r → IfOk r (λ c. Parses text ts (tree_of c))
answers_ok text ts (Ok c) h = answers_parsed text ts c h
answers_ok text ts (Err e) h = tt

pub answers_err : (text : List ℕ) (ts : List Token) (r : Result ChunkNodes ParseError) → HasReading text ts (reading text ts) r → IfErr r (λ e. IsRefusal text ts e)
answers_err text ts (Ok c) h = tt
answers_err text ts (Err e) h = answers_refusal text ts e h
