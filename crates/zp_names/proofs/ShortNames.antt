-- Short names are texts.
use Rattle.std.proofs.Common.{◌≡◌, ℕ, zero, suc, ◌<◌, List, [], ◌∷◌, true, arith}
use Rattle.std.specs.List.{list_all}
use Rattle.std.specs.Str.{IsAscii, IsUtf8}
use Rattle.std.proofs.lemmas.Bool.{and_parts}
use Rattle.std.proofs.lemmas.Bool.Decides.{nat_tests}
use Rattle.std.proofs.lemmas.Str.{IsUtf8-from_ascii}
use Rattle.zp_names.specs.Names.{is_name_byte, is_valid_short}

-- a byte of a name is ASCII
name_ascii : (b : ℕ) → is_name_byte b ≡ true → b < 128
name_ascii b e = grind (arith, nat_tests)

-- so are all of them
names_ascii : (s : List ℕ) → list_all is_name_byte s ≡ true → IsAscii s
names_ascii [] e i = omega arith
names_ascii (b ∷ bs) e zero = name_ascii b (and_parts _ _ e).0
names_ascii (b ∷ bs) e (suc i) = names_ascii bs (and_parts _ _ e).1 i

-- a valid short name is UTF-8
pub valid_short_utf8 : (s : List ℕ) → is_valid_short s ≡ true → IsUtf8 s
unfolding is_valid_short
valid_short_utf8 [] e = cc
valid_short_utf8 (b ∷ bs) e = IsUtf8-from_ascii (b ∷ bs) (names_ascii (b ∷ bs) e)
