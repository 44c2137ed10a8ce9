-- Steps of the loop over the pieces of a text.
use Rattle.std.proofs.Common.{◌≡◌, ℕ, ◌+◌, ◌≤◌, List, [], ◌∷◌, length, take, drop, Bool, cond, arith, ◌++◌, append_assoc, append-nil}
use Rattle.std.specs.List.{count_by}
use Rattle.std.proofs.lemmas.List.{drop-take, take-take}
use Rattle.std.proofs.lemmas.List.Sums.{sum_by-take-drop}
use Rattle.lua_lexer.specs.declared.token.Token.{Token}
use Rattle.lua_lexer.specs.declared.token.TokenKind.{TokenKind}
use Rattle.lua_lexer.specs.declared.lex_error.LexError.{LexError}
use Rattle.lua_lexer.specs.declared.lex_error.LexError.TheVariants as error
use Rattle.lua_lexer.specs.declared.piece.Fault.{Fault}
use Rattle.lua_lexer.specs.declared.piece.Piece.{Piece}
use Rattle.lua_lexer.specs.declared.piece.Piece.TheVariants as piece
use Rattle.lua_lexer.specs.declared.piece.Piece.TheVariants.{Nothing, Gap, Refused}
use Rattle.lua_lexer.specs.Bytes.{is_newline}
use Rattle.lua_lexer.specs.Lexes.{Stands, LexesFrom, FailsFrom, done, gap, token, here, behind_gap, behind_token, line_at, token_at, IsRefusal, refusal}
use Rattle.lua_lexer.specs.Scan.{scan}
use Rattle.lua_lexer.proofs.Sound.{stands}

-- what the loop over the pieces knows
pub record SoFar (text : List ℕ) (at : ℕ) (tokens : List Token) (line : ℕ) : Type 0 where
  pub lexes : (ts : List Token) → LexesFrom text at ts → LexesFrom text 0 (tokens ++ ts)
  pub fails : (e : LexError) → FailsFrom text e at → FailsFrom text e 0
  pub on_line : line ≡ line_at text at
  pub within : at ≤ length text

count-on : (p : ℕ → Bool) (at n : ℕ) (xs : List ℕ) → count_by p (take at xs) + count_by p (take n (drop at xs)) ≡ count_by p (take (at + n) xs)
count-on p at n xs =
    let front : take at (take (at + n) xs) ≡ take at xs = take-take at (at + n) xs (omega arith) in
    rw (← front, ← drop-take at n xs) (sum_by-take-drop (λ x. cond (p x) 1 0) (take (at + n) xs) at)

line-on : (text : List ℕ) (at n : ℕ) → at ≤ length text → line_at text at + count_by is_newline (take n (drop at text)) ≡ line_at text (at + n)
line-on text at n h = omega (arith, count-on is_newline at n text)

refuses : (text : List ℕ) (e : LexError) → FailsFrom text e 0 → IsRefusal text e
refuses text error.NoMemory h = tt
refuses text (error.BadByte at) h = h
refuses text (error.OpenString at) h = h
refuses text (error.OpenComment at) h = h
refuses text (error.BadEscape at) h = h
refuses text (error.NotWhole at) h = h
refuses text (error.TooBig at) h = h

module _ (text : List ℕ) (at line : ℕ) (tokens : List Token) (rest : List ℕ) (s : SoFar text at tokens line) (is : rest ≡ drop at text) where
  standing : (p : Piece) → p ≡ scan rest → Stands (drop at text) p
  standing p e = rw (e, is) (stands (drop at text))

  pub so_far_done : Nothing ≡ scan rest → LexesFrom text 0 tokens
  so_far_done e = rw append-nil at (s.lexes [] (done (standing Nothing e)))

  pub so_far_refused : (f : Fault) (n : ℕ) (x : LexError) → Refused f n ≡ scan rest → x ≡ refusal f (at + n) → IsRefusal text x
  so_far_refused f n x e ex = refuses text x (s.fails x (here f n (standing (Refused f n) e) ex))

  pub so_far_gap : (n count : ℕ) → Gap n ≡ scan rest → count ≡ count_by is_newline (take n rest) → at + n ≤ length text → SoFar text (at + n) tokens (line + count)
  so_far_gap n count e ec h = record {
    lexes = λ ts l. s.lexes ts (gap n (standing (Gap n) e) l);
    fails = λ x f. s.fails x (behind_gap n (standing (Gap n) e) f);
    on_line = rw (ec, is, s.on_line) (line-on text at n s.within);
    within = h;
  }

  pub so_far_token : (k : TokenKind) (n count : ℕ) → piece.Token k n ≡ scan rest → count ≡ count_by is_newline (take n rest) → at + n ≤ length text → SoFar text (at + n) (tokens ++ (record { kind = k; start = at; end = at + n; line = line } ∷ [])) (line + count)
  so_far_token k n count e ec h = record {
    lexes = λ ts l. rw (append_assoc, s.on_line) (s.lexes (token_at text at k n ∷ ts) (token k n (standing (piece.Token k n) e) l));
    fails = λ x f. s.fails x (behind_token k n (standing (piece.Token k n) e) f);
    on_line = rw (ec, is, s.on_line) (line-on text at n s.within);
    within = h;
  }
