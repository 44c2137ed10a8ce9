-- The definitions at a few names and texts, as a reader would work them out.
use Rattle.std.proofs.Common.{◌≡◌, true, false, Some, None, Ok, Err, refl, [], ◌∷◌}
use Rattle.std.specs.Prelude.{codes}
use Rattle.zp_props.specs.declared.bad_setting.BadSetting.TheVariants as bad
use Rattle.zp_props.specs.declared.kind.Kind3.TheVariants.{Filesystem, Volume, Snapshot}
use Rattle.zp_props.specs.declared.prop.Prop.TheVariants.{Canmount}
use Rattle.zp_props.specs.declared.setting.PropValue.TheVariants.{Number, Text}
use Rattle.zp_props.specs.Settings.{settings_with, settings_without}
use Rattle.zp_props.specs.UserProperties.{is_valid_user_name}
use Rattle.zp_props.specs.Properties.{prop_named, can_have_named, is_inherited, default_named}
use Rattle.zp_props.specs.ReadSetting.{setting_of, setting_or_refusal}

-- the size of a volume is a multiple of 512
odd_size : setting_or_refusal Volume (codes "volsize") (codes "1000") ≡ Err bad.BadValue
odd_size = refl

size : setting_or_refusal Volume (codes "volsize") (codes "1024") ≡ Ok (setting_of (codes "volsize") (Number 1024))
size = refl

no_size : setting_or_refusal Volume (codes "volsize") (codes "0") ≡ Err bad.BadValue
no_size = refl

greatest_size : setting_or_refusal Volume (codes "volsize") (codes "9223372036854775296") ≡ Ok (setting_of (codes "volsize") (Number 9223372036854775296))
greatest_size = refl

too_great : setting_or_refusal Volume (codes "volsize") (codes "18446744073709551616") ≡ Err bad.BadValue
too_great = refl

of_a_volume : setting_or_refusal Filesystem (codes "volsize") (codes "1024") ≡ Err bad.NotForKind
of_a_volume = refl

-- leading zeros count for nothing, a sign is no digit
zeros : setting_or_refusal Filesystem (codes "recordsize") (codes "0512") ≡ Ok (setting_of (codes "recordsize") (Number 512))
unfolding lib.Count.ones
zeros = refl

sign : setting_or_refusal Filesystem (codes "copies") (codes "+1") ≡ Err bad.BadValue
sign = refl

no_power : setting_or_refusal Filesystem (codes "recordsize") (codes "1536") ≡ Err bad.BadValue
unfolding lib.Count.ones
no_power = refl

nothing : setting_or_refusal Filesystem (codes "copies") (codes "") ≡ Err bad.BadValue
nothing = refl

word : setting_or_refusal Volume (codes "sync") (codes "always") ≡ Ok (setting_of (codes "sync") (Text (codes "always")))
word = refl

no_word : setting_or_refusal Filesystem (codes "canmount") (codes "auto") ≡ Err bad.BadValue
no_word = refl

-- the reasons in their order: only told, then not for the kind
told : setting_or_refusal Filesystem (codes "userrefs") (codes "1") ≡ Err bad.ReadOnly
told = refl

of_heads : setting_or_refusal Snapshot (codes "readonly") (codes "maybe") ≡ Err bad.NotForKind
of_heads = refl

unknown : setting_or_refusal Filesystem (codes "compression") (codes "on") ≡ Err bad.Unknown
unknown = refl

capital : setting_or_refusal Snapshot (codes "org.X:k") (codes "v") ≡ Err bad.BadUserName
capital = refl

dash : is_valid_user_name (codes "-x:k") ≡ false
dash = refl

bare : is_valid_user_name (codes ":") ≡ true
bare = refl

-- what is inherited and what there is by default
own_canmount : is_inherited (codes "canmount") ≡ false
own_canmount = refl

default_copies : default_named (codes "copies") ≡ Some (Number 1)
default_copies = refl

no_default : default_named (codes "a:b") ≡ None
no_default = refl

snapshots_have_user_properties : can_have_named Snapshot (codes "a:b") ≡ true
snapshots_have_user_properties = refl

snapshots_have_no_copies : can_have_named Snapshot (codes "copies") ≡ false
snapshots_have_no_copies = refl

found : prop_named (codes "canmount") ≡ Some Canmount
found = refl

-- a setting is put in its place, or goes last
in_place : settings_with (setting_of (codes "a") (Number 9)) (setting_of (codes "a") (Number 1) ∷ setting_of (codes "b") (Number 2) ∷ []) ≡ setting_of (codes "a") (Number 9) ∷ setting_of (codes "b") (Number 2) ∷ []
in_place = refl

last : settings_with (setting_of (codes "c") (Number 9)) (setting_of (codes "a") (Number 1) ∷ []) ≡ setting_of (codes "a") (Number 1) ∷ setting_of (codes "c") (Number 9) ∷ []
last = refl

gone : settings_without (codes "a") (setting_of (codes "a") (Number 1) ∷ setting_of (codes "b") (Number 2) ∷ []) ≡ setting_of (codes "b") (Number 2) ∷ []
gone = refl
