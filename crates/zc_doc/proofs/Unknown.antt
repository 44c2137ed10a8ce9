-- The first member that is not known, as a map is searched for it.
use Rattle.serde_json.specs.Data.{Data, null, boolean, number, string, array, object, Members}
use Rattle.serde_json.specs.Find.{as_object}
use Rattle.std.proofs.Common.{◌≡◌, ℕ, List, [], ◌∷◌, Bool, true, false, not, cond, find, Option, Some, None, option_map, String, Global, string_bytes, refl, sym, ap, BTreeMap, map}
use Rattle.std.specs.BTreeMap.{keys}
use Rattle.serde_json.specs.View.{members_view}
use Rattle.serde_json.specs.declared.value.Value.{Value}
use Rattle.zc_doc.specs.Reading.{first_unknown, none_unknown, only_members}

entry-unknown : (known : List ℕ → Bool) (es : List (String Global × Value)) → option_map string_bytes (find (λ k. not (known (string_bytes k))) (map (λ e. e.0) es)) ≡ first_unknown known (members_view es)
entry-unknown known [] = refl
entry-unknown known (e ∷ es) = split (known (string_bytes e.0)) (entry-unknown known es)
  where
    split : (b : Bool) → option_map string_bytes (find (λ k. not (known (string_bytes k))) (map (λ e. e.0) es)) ≡ first_unknown known (members_view es) →
        option_map string_bytes (cond (not b) (Some e.0) (find (λ k. not (known (string_bytes k))) (map (λ e. e.0) es))) ≡ cond b (first_unknown known (members_view es)) (Some (string_bytes e.0))
    split true h = h
    split false h = refl

pub unknown_is : (known : List ℕ → Bool) (m : BTreeMap (String Global) Value) → first_unknown known (members_view m.entries) ≡ option_map string_bytes (find (λ k. not (known (string_bytes k))) (keys m))
unknown_is known m = sym (entry-unknown known m.entries)

-- what is an object is searched
pub object-is : (known : List ℕ → Bool) (d : Data) (ms : Members) → Some ms ≡ as_object d → only_members known d ≡ none_unknown (first_unknown known ms)
object-is known (object es) ms e = let is : ms ≡ es = cc in ap (λ (m : Members). none_unknown (first_unknown known m)) (sym is)
object-is known null ms e = cc
object-is known (boolean b) ms e = cc
object-is known (number n) ms e = cc
object-is known (string s) ms e = cc
object-is known (array ds) ms e = cc
