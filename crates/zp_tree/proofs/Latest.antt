-- The latest snapshot of a head, record by record.
use Rattle.std.proofs.Common.{◌≡◌, ℕ, ◌+◌, ◌<◌, List, [], ◌∷◌, ◌++◌, length, take, get_or, Option, Some, None, refl, sym, ap, ◌∙◌, add-one}
use Rattle.std.specs.Option.{option_or}
use Rattle.std.proofs.Math.Seq.{take-suc}
use Rattle.zp_tree.specs.declared.item.Item.{Item}
use Rattle.zp_tree.specs.Rollback.{own_snapshot, latest}

none-last : {A : Type 0} (o : Option A) → option_or None o ≡ option_or o None
none-last None = refl
none-last (Some a) = refl

regroup : {A : Type 0} (a b c : Option A) → option_or (option_or a b) c ≡ option_or a (option_or b c)
regroup None b c = refl
regroup (Some x) b c = refl

-- one record more
pub latest-more : (owner : ℕ) (rs : List Item) (r : Item) → latest owner (rs ++ r ∷ []) ≡ option_or (own_snapshot owner r) (latest owner rs)
latest-more owner [] r = none-last (own_snapshot owner r)
latest-more owner (x ∷ rs) r = ap (λ o. option_or o (own_snapshot owner x)) (latest-more owner rs r) ∙ regroup (own_snapshot owner r) (latest owner rs) (own_snapshot owner x)

-- the records up to a place, with the one that is there
pub one-more : (xs : List Item) (i : ℕ) (d : Item) → i < length xs → d ≡ get_or xs i d → take (i + 1) xs ≡ take i xs ++ d ∷ []
one-more xs i d lt is = let e : take (i + 1) xs ≡ take i xs ++ get_or xs i d ∷ [] = rw (add-one, take-suc xs i d lt) in e ∙ ap (λ y. take i xs ++ y ∷ []) (sym is)
