-- The replies that the sessions of a document were given can be printed.
use Rattle.std.proofs.Common.{◌≡◌, ℕ, zero, suc, ◌+◌, List, [], ◌∷◌, length, map, All, Some, Option, arith, slice_get, subst}
use Rattle.std.specs.List.{range_with_len}
use Rattle.std.proofs.lemmas.List.Elements.{All-cons, All-nil}
use Rattle.txg_core.specs.Rules.{Origin}
use Rattle.txg_core.specs.declared.event.Entry.{Entry}
use Rattle.txg_core.specs.Serial.{given}
use Rattle.zc_offline.specs.Replay.{call_in}

-- what holds of the replies that each session was given
pub all-given : {W C R : Type 0} (P : R → Type 0) (o : Origin W C R) (h : List (Entry C)) → ((s : ℕ) → All P (given o h s)) → (a n : ℕ) → All (λ (rs : List R). All P rs) (map (given o h) (range_with_len a n))
all-given {R = R} P o h each a zero = All-nil (λ (rs : List R). All P rs)
all-given {R = R} P o h each a (suc n) = All-cons (λ (rs : List R). All P rs) (given o h a) (map (given o h) (range_with_len (a + 1) n)) (each a) (all-given P o h each (a + 1) n)

call-of-all : {C : Type 0} (P : C → Type 0) (calls : List C) (n : ℕ) (c : C) → All P calls → slice_get calls n ≡ Some c → P c
call-of-all P [] n c all e = cc
call-of-all P (d ∷ calls) zero c all e = let is : d ≡ c = cc in subst P is (all 0 d (omega arith))
call-of-all P (d ∷ calls) (suc n) c all e = call-of-all P calls n c (λ k x lt. all (suc k) x (omega arith)) e

-- what holds of every call of the sessions
pub each-call : {C : Type 0} (P : C → Type 0) (sessions : List (List C)) → All (λ (calls : List C). All P calls) sessions → (s n : ℕ) (c : C) → call_in sessions s n ≡ Some c → P c
each-call P [] all s n c e = cc
each-call P (calls ∷ sessions) all zero n c e = call-of-all P calls n c (all 0 calls (omega arith)) e
each-call P (calls ∷ sessions) all (suc s) n c e = each-call P sessions (λ k x lt. all (suc k) x (omega arith)) s n c e
