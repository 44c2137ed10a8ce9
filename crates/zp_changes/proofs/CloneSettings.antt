-- The settings of a clone.
use Rattle.std.proofs.Common.{◌≡◌, ℕ, ◌+◌, List, [], ◌∷◌, Bool, true, false, cond, Option, Some, None, is_some, find, refl, sym, ap, subst, ◌∙◌, bytes_eq, All, inl, inr}
use Rattle.std.specs.List.{IsDistinct}
use Rattle.std.specs.Str.{IsUtf8}
use Rattle.std.specs.Option.{option_map_or}
use Rattle.std.proofs.lemmas.Bool.{cases_Bool}
use Rattle.std.proofs.lemmas.List.Elements.{All-head, All-tail, All-cons, All-nil}
use Rattle.std.proofs.lemmas.Slice.Eq.{bytes_eq-Decides}
use Rattle.zp_props.specs.declared.setting.Setting.{Setting}
use Rattle.zp_props.specs.Settings.{AreSettings, IsValue, setting_named, has_setting, user_count, is_user_name, volsize}
use Rattle.zp_props.proofs.NoSettings.{no_settings}
use Rattle.zp_tree.specs.declared.item.Head.{Head}
use Rattle.zp_tree.specs.declared.item.HeadKind.{HeadKind}
use Rattle.zp_tree.specs.declared.item.HeadKind.TheVariants.{Filesystem, Volume}
use Rattle.zp_tree.specs.Items.{is_volume, is_volume_kind}
use Rattle.zp_tree.specs.MakeClone.{clone_settings}
use Rattle.zp_tree.proofs.Looks.{find-passes}

-- what holds of all holds of what is found
all-found : {X : Type 0} (P : X → Type 0) (p : X → Bool) (xs : List X) (x : X) → All P xs → find p xs ≡ Some x → P x
all-found P p [] x h e = cc
all-found P p (y ∷ ys) x h e = elim (cases_Bool (p y)) [
  | inl hit ↦ let is : Some y ≡ Some x = sym (ap (λ b. cond b (Some y) (find p ys)) hit) ∙ e in let it : y ≡ x = cc in subst P it (All-head P y ys h)
  | inr miss ↦ all-found P p ys x (All-tail P y ys h) (sym (ap (λ b. cond b (Some y) (find p ys)) miss) ∙ e)
]

one-distinct : (x : List ℕ) → IsDistinct bytes_eq (x ∷ [])
unfolding IsDistinct
one-distinct x = (tt, tt)

abbrev test : Setting → Bool
test s = bytes_eq s.name volsize

abbrev weight : List ℕ → ℕ
weight n = 0 + cond (is_user_name n) 1 0

-- what the settings of a clone say
pub record Good (settings : List Setting) (volume : Bool) : Type 0 where
  pub settings_are : AreSettings settings
  pub sized : volume ≡ true → has_setting volsize settings ≡ true
  pub no_user : user_count settings ≡ 0

pub one : (s : Setting) (volume : Bool) → IsUtf8 s.name → IsValue s.value → bytes_eq s.name volsize ≡ true → Good (s ∷ []) volume
one s volume name value e =
    let is : s.name ≡ volsize = (bytes_eq-Decides s.name volsize).0 e in record {
      settings_are = record { distinct = one-distinct s.name; names = All-cons (λ (s : Setting). IsUtf8 s.name) s [] name (All-nil (λ (s : Setting). IsUtf8 s.name)); values = All-cons (λ (s : Setting). IsValue s.value) s [] value (All-nil (λ (s : Setting). IsValue s.value)) };
      sized = λ v. ap (λ b. is_some (cond b (Some s) None)) e;
      no_user = ap weight is;
    }

pub clone-good : (d : Head) → AreSettings d.settings → (is_volume d ≡ true → has_setting volsize d.settings ≡ true) → Good (clone_settings d) (is_volume d)
clone-good d h size = go (is_volume d) size
  where
    found : (o : Option Setting) → setting_named volsize d.settings ≡ o → is_some o ≡ true → Good (option_map_or (λ s. s ∷ []) o []) true
    found None e some = cc
    found (Some s) e some = one s true (all-found (λ (s : Setting). IsUtf8 s.name) test d.settings s h.names e) (all-found (λ (s : Setting). IsValue s.value) test d.settings s h.values e) (find-passes test d.settings s e)

    go : (b : Bool) → (b ≡ true → has_setting volsize d.settings ≡ true) → Good (cond b (option_map_or (λ s. s ∷ []) (setting_named volsize d.settings) []) []) b
    go true f = found (setting_named volsize d.settings) refl (f refl)
    go false f = record { settings_are = no_settings; sized = λ v. cc; no_user = refl }

pub volume-kind : (k : HeadKind) → k ≡ Volume → is_volume_kind k ≡ true
volume-kind k e = ap is_volume_kind e

pub kind-volume : (k : HeadKind) → is_volume_kind k ≡ true → k ≡ Volume
kind-volume Filesystem e = cc
kind-volume Volume e = refl
