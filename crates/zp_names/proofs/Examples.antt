-- The definitions at a few texts, as a reader would work them out.
use Rattle.std.proofs.Common.{◌≡◌, true, false, Some, None, refl, replicate}
use Rattle.std.specs.Prelude.{codes}
use Rattle.zp_names.specs.declared.bad_name.BadName.TheVariants as bad
use Rattle.zp_names.specs.declared.form.Form.TheVariants as form
use Rattle.zp_names.specs.Names.{is_valid_name, is_valid_short, head_of, short_of}
use Rattle.zp_names.specs.NameFaults.{name_fault}
use Rattle.zp_names.specs.NameParts.{form_of, pool_of, parent_of, is_below}
use Rattle.zp_names.specs.NameMoves.{is_at_or_below, name_after, outgrows}

valid : is_valid_name (codes "a/b c.d@1") ≡ true
unfolding is_valid_name is_valid_short
valid = refl

dots : is_valid_name (codes "a/..") ≡ true
unfolding is_valid_name is_valid_short
dots = refl

empty : name_fault (codes "") ≡ Some bad.Empty
unfolding name_fault
empty = refl

too_long : name_fault (replicate 256 97) ≡ Some (bad.TooLong 256)
unfolding name_fault
too_long = refl

bad_byte : name_fault (codes "a#b/c") ≡ Some (bad.BadByte 3)
unfolding name_fault
bad_byte = refl

no_letter : name_fault (codes "1a") ≡ Some (bad.BadByte 0)
unfolding name_fault
no_letter = refl

two_marks : name_fault (codes "a@b@c") ≡ Some (bad.TwoMarks 3)
unfolding name_fault
two_marks = refl

empty_part : name_fault (codes "a//b") ≡ Some (bad.EmptyPart 2)
unfolding name_fault
empty_part = refl

no_short_name : name_fault (codes "a@") ≡ Some (bad.EmptyPart 2)
unfolding name_fault
no_short_name = refl

pieces : (form_of (codes "a/b@c") ≡ form.Snap) × (head_of (codes "a/b@c") ≡ codes "a/b") × (short_of (codes "a/b@c") ≡ codes "c") × (pool_of (codes "a/b@c") ≡ codes "a")
pieces = (refl, refl, refl, refl)

parents : (parent_of (codes "a/b/c") ≡ Some (codes "a/b")) × (parent_of (codes "a") ≡ None) × (parent_of (codes "a/b@c") ≡ None)
parents = (refl, refl, refl)

below : (is_below (codes "a/b") (codes "a") ≡ true) × (is_below (codes "ab") (codes "a") ≡ false)
below = (refl, refl)

at_or_below : (is_at_or_below (codes "a/b") (codes "a") ≡ true) × (is_at_or_below (codes "a") (codes "a") ≡ true) × (is_at_or_below (codes "ab") (codes "a") ≡ false)
at_or_below = (refl, refl, refl)

after_renames : (name_after (codes "r/a") (codes "r/long") (codes "r/a/b") ≡ codes "r/long/b") × (name_after (codes "r/a") (codes "r/c") (codes "r/ab") ≡ codes "r/ab")
after_renames = (refl, refl)

outgrown : (outgrows (codes "r/a") (codes "r/ab") (codes "r/a/c") 250 ≡ true) × (outgrows (codes "r/a") (codes "r/ab") (codes "r/a/c") 249 ≡ false) × (outgrows (codes "r/a") (codes "r/ab") (codes "r/b") 300 ≡ false)
outgrown = (refl, refl, refl)
