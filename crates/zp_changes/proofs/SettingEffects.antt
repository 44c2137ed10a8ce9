-- What a dataset has after a property is set on it or taken away.
use Rattle.std.proofs.Common.{◌≡◌, ℕ, ◌+◌, ◌<◌, ◌≤◌, List, [], ◌∷◌, ◌++◌, length, Bool, true, false, not, ◌&&◌, ◌||◌, cond, Option, Some, None, IsSome, is_some, Result, Ok, Err, refl, sym, ap, subst, ◌∙◌, inl, inr, arith, option_map, option_and_then, bytes_eq, find, filter, map, length-append}
use Rattle.std.specs.List.{filter_map, cons_option}
use Rattle.std.specs.Option.{option_map_or, option_or}
use Rattle.std.specs.Result.{result_ok}
use Rattle.std.proofs.lemmas.Bool.{cases_eq, eq-eqb, ne_eqb, cases_Bool, and_parts, and_from, cond_both, both_ways}
use Rattle.std.proofs.lemmas.Slice.Eq.{bytes_eq-Decides}
use Rattle.zp_names.specs.NameParts.{parent_of}
use Rattle.zp_names.specs.NameMoves.{is_at_or_below}
use Rattle.zp_names.proofs.Moving.{Beyond, beyond}
use Rattle.zp_props.specs.declared.setting.Setting.{Setting}
use Rattle.zp_props.specs.declared.setting.PropValue.{PropValue}
use Rattle.zp_props.specs.declared.kind.Kind3.{Kind3}
use Rattle.zp_props.specs.declared.kind.Kind3.TheVariants as kind
use Rattle.zp_props.specs.declared.prop.Prop.{Prop}
use Rattle.zp_props.specs.declared.bad_setting.BadSetting.{BadSetting}
use Rattle.zp_props.specs.declared.bad_setting.BadSetting.TheVariants as bad
use Rattle.zp_props.specs.Settings.{is_user_name, setting_named, has_setting, set_in_place, settings_with, settings_without, volsize}
use Rattle.zp_props.specs.UserProperties.{is_valid_user_name}
use Rattle.zp_props.specs.Lines.{includes}
use Rattle.zp_props.specs.Properties.{native, prop_named, is_settable, can_have, can_have_named, is_inherited, default_named}
use Rattle.zp_props.specs.ReadSetting.{value_in, setting_of, native_setting, user_setting, setting_or_refusal}
use Rattle.zp_props.proofs.SettingLaws.{with-this, with-rest, without-this, without-twice}
use Rattle.zp_props.proofs.SettingTexts.{reads-good}
use Rattle.zp_tree.specs.declared.item.Item.{Item}
use Rattle.zp_tree.specs.declared.item.Item.TheVariants as item
use Rattle.zp_tree.specs.declared.item.Head.{Head}
use Rattle.zp_tree.specs.declared.item.Snapshot.{Snapshot}
use Rattle.zp_tree.specs.Tree.{Tree, at, id_of, put, as_head, named, head_at, replaced}
use Rattle.zp_tree.specs.WellFormed.{IsWellFormed}
use Rattle.zp_tree.specs.Rows.{passed}
use Rattle.zp_tree.specs.Inherited.{Told, set_on, kind_of_head, holds_property, setter_over, longest, nearest_setter, setter_for, own_value, value_set_on, default_told, effective_on_head, effective_on_snapshot, effective_on, effective}
use Rattle.zp_tree.specs.Climbing.{AreOfTree}
use Rattle.zp_tree.specs.Settable.{kind_of_item, settings_of_item, with_settings, kind_named}
use Rattle.zp_tree.specs.SetProperty.{set_check, setting_on, item_with, item_set, tree_with, set_change}
use Rattle.zp_tree.specs.InheritProperty.{can_be_taken_away, inherit_rows, inherit_check, item_without, inherit_change}
use Rattle.zp_tree.proofs.Edits.{edit, look-put, edit-here, edit-other}
use Rattle.zp_tree.proofs.Nearest.{nearest_here, nearest_above, nearest_top, shorter_above}
use Rattle.zp_tree.proofs.Clear.{clear, not-false}
use Rattle.zp_changes.specs.PropertyLaws.{SetTakesEffect, settings_at, KeepsOthers, SetKeepsOthers, InheritKeepsOthers, value_above, LeavesWhatIsAbove, InheritLeavesWhatIsAbove}
use Rattle.zp_changes.proofs.SettingsLaw.{read-on, named-there, here-put, else-put, set-well, inherit-well}

-- ---- the tree with one record in another's place

-- what a list gives where the new record gives what the old one gave
put-map : (f : Item → Option Head) (x r : Item) (rs : List Item) → at rs (id_of x) ≡ Some r → f x ≡ f r → filter_map f (put x rs) ≡ filter_map f rs
put-map f x r [] e same = cc
put-map f x r (y ∷ rs) e same = elim (cases_eq (id_of y) (id_of x)) [
  | inl here ↦ (let is : Some y ≡ Some r = sym (ap (λ b. cond b (Some y) (at rs (id_of x))) (eq-eqb (id_of y) (id_of x) here)) ∙ e in
      let it : r ≡ y = cc in
      ap (λ b. filter_map f (cond b (x ∷ rs) (y ∷ put x rs))) (eq-eqb (id_of y) (id_of x) here) ∙ ap (λ o. cons_option o (filter_map f rs)) (same ∙ ap f it))
  | inr there ↦ ap (λ b. filter_map f (cond b (x ∷ rs) (y ∷ put x rs))) (ne_eqb (id_of y) (id_of x) there) ∙ ap (cons_option (f y)) (put-map f x r rs (sym (ap (λ b. cond b (Some y) (at rs (id_of x))) (ne_eqb (id_of y) (id_of x) there)) ∙ e) same)
]

-- ---- what is read is of a property that the dataset can have

reads-can-have : (k : Kind3) (name text : List ℕ) (s : Setting) → setting_or_refusal k name text ≡ Ok s → can_have_named k name ≡ true
reads-can-have k name text s e = go (is_user_name name) (prop_named name) e
  where
    both : (a b : Bool) (p : Prop) (o : Option PropValue) → cond (not a) (Err bad.ReadOnly) (cond (not b) (Err bad.NotForKind) (option_map_or (λ v. Ok (setting_of (native p).name v)) o (Err bad.BadValue))) ≡ Ok s → (a && b) ≡ true
    both false b p o f = cc
    both true false p o f = cc
    both true true p o f = refl

    go : (u : Bool) (o : Option Prop) → cond u (user_setting name text) (option_map_or (λ p. native_setting k (native p) text) o (Err bad.Unknown)) ≡ Ok s → cond u true (option_map_or (λ p. can_have k (native p)) o false) ≡ true
    go true o f = refl
    go false None f = cc
    go false (Some p) f = both (is_settable (native p).allowed) (includes (native p).kinds k) p (value_in (native p).allowed text) f

-- ---- set

set-is : (t : Tree) (name property value : List ℕ) (r : Item) (s : Setting) → named t.records name ≡ Some r → setting_on r property value ≡ Some s → set_change t name property value ≡ replaced t (item_with s r)
set-is t name property value r s f g =
    ap (λ (o : Option Item). option_map_or (tree_with t property value) o t) f ∙ ap (λ (o : Option Setting). option_map_or (replaced t) (option_map (λ s. item_with s r) o) t) g

-- what a head with the setting has
set-head : (t : Tree) (d : Head) (s : Setting) (property : List ℕ) → IsWellFormed (replaced t (item_with s (item.Head d))) → at t.records d.id ≡ Some (item.Head d) → can_have_named (kind_of_head d.kind) property ≡ true → setting_named property (settings_with s d.settings) ≡ Some s →
    effective_on_head (put (item_with s (item.Head d)) t.records) property (record d { settings = settings_with s d.settings }) ≡ Some (set_on s.value d.id)
set-head t d s property w there can set =
    ap (λ b. cond b (option_or (option_and_then (value_set_on property) (setter_for rs property e)) (default_told property)) None) can
    ∙ ap (λ o. option_or (option_and_then (value_set_on property) o) (default_told property)) (setter (is_inherited property) refl)
    ∙ ap (λ o. option_or (option_map (λ (u : Setting). set_on u.value d.id) o) (default_told property)) set
  where
    e : Head
    e = record d { settings = settings_with s d.settings }

    rs : List Item
    rs = put (item_with s (item.Head d)) t.records

    holds : holds_property property (record d { settings = settings_with s d.settings }) ≡ true
    holds = and_from (can_have_named (kind_of_head d.kind) property) (has_setting property (settings_with s d.settings)) can (ap is_some set)

    setter : (b : Bool) → is_inherited property ≡ b → setter_for (put (item_with s (item.Head d)) t.records) property (record d { settings = settings_with s d.settings }) ≡ Some (record d { settings = settings_with s d.settings })
    setter true f = ap (λ b. cond b (nearest_setter (put (item_with s (item.Head d)) t.records) property d.name) (cond (holds_property property (record d { settings = settings_with s d.settings })) (Some (record d { settings = settings_with s d.settings })) None)) f
        ∙ nearest_here (put (item_with s (item.Head d)) t.records) (record { next = t.next; well = w }) property (record d { settings = settings_with s d.settings }) (here-put t (item.Head d) (settings_with s d.settings) there) holds
    setter false f = ap (λ b. cond b (nearest_setter (put (item_with s (item.Head d)) t.records) property d.name) (cond (holds_property property (record d { settings = settings_with s d.settings })) (Some (record d { settings = settings_with s d.settings })) None)) f
        ∙ ap (λ b. cond b (Some (record d { settings = settings_with s d.settings })) None) holds

-- what a snapshot with the setting has
set-snapshot : (rs : List Item) (u : Snapshot) (s : Setting) (property : List ℕ) → can_have_named kind.Snapshot property ≡ true → setting_named property (settings_with s u.settings) ≡ Some s →
    effective_on_snapshot rs property (record u { settings = settings_with s u.settings }) ≡ Some (set_on s.value u.id)
set-snapshot rs u s property can set =
    ap (λ b. cond b (option_or (own_value property u.id (settings_with s u.settings)) (option_and_then (effective_on_head rs property) (option_and_then as_head (at rs u.owner)))) None) can
    ∙ ap (λ o. option_or (option_map (λ (v : Setting). set_on v.value u.id) o) (option_and_then (effective_on_head rs property) (option_and_then as_head (at rs u.owner)))) set

pub set-takes-effect : SetTakesEffect
set-takes-effect t name property value r s w e f g =
    ap (λ (u : Tree). effective u (id_of r) property) is ∙ ap (option_and_then (effective_on (put (item_with s r) t.records) property)) (here-put t r (settings_with s (settings_of_item r)) there) ∙ on r f there g (subst IsWellFormed is (set-well t name property value w e))
  where
    is : set_change t name property value ≡ replaced t (item_with s r)
    is = set-is t name property value r s f g

    there : at t.records (id_of r) ≡ Some r
    there = named-there t name r w f

    set-named : (k : Kind3) (r : Item) → setting_or_refusal k property value ≡ Ok s → setting_named property (settings_with s (settings_of_item r)) ≡ Some s
    set-named k r read = subst (λ n. setting_named n (settings_with s (settings_of_item r)) ≡ Some s) (reads-good k property value s read).named (with-this s (settings_of_item r))

    on : (r : Item) → named t.records name ≡ Some r → at t.records (id_of r) ≡ Some r → setting_on r property value ≡ Some s → IsWellFormed (replaced t (item_with s r)) → effective_on (put (item_with s r) t.records) property (item_with s r) ≡ Some (set_on s.value (id_of r))
    on (item.Head d) f there g v = (let read = read-on (item.Head d) (kind_of_head d.kind) property value s refl g in set-head t d s property v there (reads-can-have (kind_of_head d.kind) property value s read) (set-named (kind_of_head d.kind) (item.Head d) read))
    on (item.Snap u) f there g v = (let read = read-on (item.Snap u) kind.Snapshot property value s refl g in set-snapshot (put (item_with s (item.Snap u)) t.records) u s property (reads-can-have kind.Snapshot property value s read) (set-named kind.Snapshot (item.Snap u) read))
    on (item.Mark m) f there g v = cc

-- ---- no other setting changes

kept : (t : Tree) (r : Item) (new : List Setting) (property : List ℕ) → at t.records (id_of r) ≡ Some r → settings_without property (settings_of_item (with_settings new r)) ≡ settings_without property (settings_of_item r) → KeepsOthers t (replaced t (with_settings new r)) (id_of r) property
kept t r new property there same = record {
  datasets = λ i other. else-put t r new i there other;
  settings = ap (λ o. settings_without property (option_map_or settings_of_item o [])) (here-put t r new there) ∙ same ∙ sym (ap (λ o. settings_without property (option_map_or settings_of_item o [])) there);
}

-- the settings of a record that is given settings; a bookmark has none
settings-given : (P : List Setting → Type 0) (r : Item) (new : List Setting) → P new → P (settings_of_item r) → P (settings_of_item (with_settings new r))
settings-given P (item.Head d) new a b = a
settings-given P (item.Snap s) new a b = a
settings-given P (item.Mark m) new a b = b

unchanged : (t : Tree) (id : ℕ) (property : List ℕ) → KeepsOthers t t id property
unchanged t id property = record { datasets = λ i other. refl; settings = refl }

pub set-keeps-others : SetKeepsOthers
set-keeps-others t name property value r w f = subst (λ (u : Tree). KeepsOthers t u (id_of r) property) (sym (ap (λ (o : Option Item). option_map_or (tree_with t property value) o t) f)) (go (kind_of_item r) refl (setting_on r property value) refl)
  where
    there : at t.records (id_of r) ≡ Some r
    there = named-there t name r w f

    go : (k : Option Kind3) → kind_of_item r ≡ k → (o : Option Setting) → setting_on r property value ≡ o → KeepsOthers t (option_map_or (replaced t) (option_map (λ s. item_with s r) o) t) (id_of r) property
    go k h None g = unchanged t (id_of r) property
    go None h (Some s) g = let no : None ≡ Some s = sym (ap (option_and_then (λ k. result_ok (setting_or_refusal k property value))) h) ∙ g in cc
    go (Some k) h (Some s) g =
        let is = (reads-good k property value s (read-on r k property value s h g)).named in
        let xs = settings_of_item r in
        kept t r (settings_with s xs) property there (settings-given (λ ys. settings_without property ys ≡ settings_without property xs) r (settings_with s xs) (subst (λ n. settings_without n (settings_with s xs) ≡ settings_without n xs) is (with-rest s xs)) refl)

pub inherit-keeps-others : InheritKeepsOthers
inherit-keeps-others t name property r w f = subst (λ (u : Tree). KeepsOthers t u (id_of r) property) (sym (ap (λ (o : Option Item). option_map_or (λ r. replaced t (item_without property r)) o t) f))
    (let xs = settings_of_item r in kept t r (settings_without property xs) property (named-there t name r w f) (settings-given (λ ys. settings_without property ys ≡ settings_without property xs) r (settings_without property xs) (without-twice property xs) refl))

-- ---- inherit

inherit-is : (t : Tree) (name property : List ℕ) (r : Item) → named t.records name ≡ Some r → inherit_change t name property ≡ replaced t (item_without property r)
inherit-is t name property r f = ap (λ (o : Option Item). option_map_or (λ r. replaced t (item_without property r)) o t) f

-- a property whose setting can be taken away is one that the dataset can have
taken-can-have : (property : List ℕ) (k : Kind3) → can_be_taken_away property k ≡ true → can_have_named k property ≡ true
taken-can-have property k e = go (is_user_name property) refl e
  where
    go : (u : Bool) → is_user_name property ≡ u → cond u (is_valid_user_name property) (can_have_named k property && not (bytes_eq property volsize)) ≡ true → can_have_named k property ≡ true
    go true f h = ap (λ u. cond u true (option_map_or (λ p. can_have k (native p)) (prop_named property) false)) f
    go false f h = (and_parts (can_have_named k property) (not (bytes_eq property volsize)) h).0

allowed : (t : Tree) (name property : List ℕ) (r : Item) (k : Kind3) → inherit_check t name property ≡ passed → named t.records name ≡ Some r → kind_of_item r ≡ Some k → can_have_named k property ≡ true
allowed t name property r k e f kind =
    let row = (clear (inherit_rows t name property) refl e).1.1.0 in
    taken-can-have property k (not-false (can_be_taken_away property k) (sym (ap (λ (o : Option Item). option_map_or (λ k. not (can_be_taken_away property k)) (option_and_then kind_of_item o) false) f ∙ ap (λ (o : Option Kind3). option_map_or (λ k. not (can_be_taken_away property k)) o false) kind) ∙ row))

-- a longer name is not above a shorter one
not-over : (q n : List ℕ) → length q < length n → is_at_or_below q n ≡ false
not-over q n less = elim (cases_Bool (is_at_or_below q n)) [
  | inl h ↦ (let b = beyond q n h in let size : length q ≡ length n + length b.rest = ap length b.is ∙ length-append n b.rest in absurd (omega arith))
  | inr h ↦ h
]

-- a head without the setting, in the tree with it in the old one's place
record Bare (t : Tree) (property : List ℕ) (d : Head) : Type 0 where
  bare : Head
  is : bare ≡ record d { settings = settings_without property d.settings }
  tree : AreOfTree (put (item.Head bare) t.records)
  there : at (put (item.Head bare) t.records) bare.id ≡ Some (item.Head bare)
  before : at t.records bare.id ≡ Some (item.Head d)
  name : bare.name ≡ d.name
  can : can_have_named (kind_of_head bare.kind) property ≡ true
  holds : holds_property property bare ≡ false

-- its value, by what is set on it or above
bare-value : (t : Tree) (property : List ℕ) (d : Head) (b : Bare t property d) (o : Option Head) → setter_for (put (item.Head b.bare) t.records) property b.bare ≡ o → effective_on_head (put (item.Head b.bare) t.records) property b.bare ≡ option_or (option_and_then (value_set_on property) o) (default_told property)
bare-value t property d b o is =
    ap (λ c. cond c (option_or (option_and_then (value_set_on property) (setter_for (put (item.Head b.bare) t.records) property b.bare)) (default_told property)) None) b.can
    ∙ ap (λ o. option_or (option_and_then (value_set_on property) o) (default_told property)) is

bare-alone : (t : Tree) (property : List ℕ) (d : Head) (b : Bare t property d) → is_inherited property ≡ false → setter_for (put (item.Head b.bare) t.records) property b.bare ≡ None
bare-alone t property d b own =
    ap (λ c. cond c (nearest_setter (put (item.Head b.bare) t.records) property b.bare.name) (cond (holds_property property b.bare) (Some b.bare) None)) own ∙ ap (λ c. cond c (Some b.bare) None) b.holds

bare-above : (t : Tree) (property : List ℕ) (d : Head) (b : Bare t property d) (parent : List ℕ) → is_inherited property ≡ true → parent_of d.name ≡ Some parent → setter_for (put (item.Head b.bare) t.records) property b.bare ≡ nearest_setter t.records property parent
bare-above t property d b parent inherited up =
    let rs = put (item.Head b.bare) t.records in
    let up_here : parent_of b.bare.name ≡ Some parent = ap parent_of b.name ∙ up in
    let over : is_at_or_below parent d.name ≡ false = not-over parent d.name (shorter_above d.name parent up) in
    let over_here : is_at_or_below parent b.bare.name ≡ false = ap (is_at_or_below parent) b.name ∙ over in
    let new : setter_over property parent (item.Head b.bare) ≡ None = ap (λ c. cond (c && holds_property property b.bare) (Some b.bare) None) over_here in
    let old : setter_over property parent (item.Head d) ≡ None = ap (λ c. cond (c && holds_property property d) (Some d) None) over in
    ap (λ c. cond c (nearest_setter rs property b.bare.name) (cond (holds_property property b.bare) (Some b.bare) None)) inherited
    ∙ nearest_above rs b.tree property b.bare parent b.there b.holds up_here
    ∙ ap longest (put-map (setter_over property parent) (item.Head b.bare) (item.Head d) t.records b.before (new ∙ sym old))

bare-top : (t : Tree) (property : List ℕ) (d : Head) (b : Bare t property d) → parent_of d.name ≡ None → setter_for (put (item.Head b.bare) t.records) property b.bare ≡ None
bare-top t property d b top = elim (cases_Bool (is_inherited property)) [
  | inl inherited ↦ ap (λ c. cond c (nearest_setter (put (item.Head b.bare) t.records) property b.bare.name) (cond (holds_property property b.bare) (Some b.bare) None)) inherited
      ∙ nearest_top (put (item.Head b.bare) t.records) b.tree property b.bare b.there b.holds (ap parent_of b.name ∙ top)
  | inr own ↦ bare-alone t property d b own
]

no-and : (b : Bool) → (b && false) ≡ false
no-and true = refl
no-and false = refl

-- the heads are the same where a snapshot's settings change
heads-same : (t : Tree) (s : Snapshot) (new : List Setting) (i : ℕ) → at t.records s.id ≡ Some (item.Snap s) → option_and_then as_head (at (put (with_settings new (item.Snap s)) t.records) i) ≡ head_at t i
heads-same t s new i there = elim (cases_eq i s.id) [
  | inl same ↦ ap (λ k. option_and_then as_head (at (put (with_settings new (item.Snap s)) t.records) k)) same ∙ ap (option_and_then as_head) (here-put t (item.Snap s) new there) ∙ sym (ap (λ k. head_at t k) same ∙ ap (option_and_then as_head) there)
  | inr other ↦ ap (option_and_then as_head) (else-put t (item.Snap s) new i there other)
]

setter-same : (t : Tree) (s : Snapshot) (new : List Setting) (property : List ℕ) (d : Head) → at t.records s.id ≡ Some (item.Snap s) → setter_for (put (with_settings new (item.Snap s)) t.records) property d ≡ setter_for t.records property d
setter-same t s new property d there = ap (λ o. cond (is_inherited property) o (cond (holds_property property d) (Some d) None)) (ap longest (put-map (setter_over property d.name) (with_settings new (item.Snap s)) (item.Snap s) t.records there refl))

value-same : (t : Tree) (s : Snapshot) (new : List Setting) (property : List ℕ) → at t.records s.id ≡ Some (item.Snap s) → (o : Option Head) → option_and_then (effective_on_head (put (with_settings new (item.Snap s)) t.records) property) o ≡ option_and_then (effective_on_head t.records property) o
value-same t s new property there None = refl
value-same t s new property there (Some d) = ap (λ o. cond (can_have_named (kind_of_head d.kind) property) (option_or (option_and_then (value_set_on property) o) (default_told property)) None) (setter-same t s new property d there)

pub inherit-leaves-what-is-above : InheritLeavesWhatIsAbove
inherit-leaves-what-is-above t name property w e = record {
  inherited = λ d parent f inherited up. (let b = bare d f in at-head d f ∙ bare-value t property d b (nearest_setter t.records property parent) (bare-above t property d b parent inherited up));
  pool = λ d f top. (let b = bare d f in at-head d f ∙ bare-value t property d b None (bare-top t property d b top));
  alone = λ d f own. (let b = bare d f in at-head d f ∙ bare-value t property d b None (bare-alone t property d b own));
  snapshots = λ s f. at-snapshot s f;
}
  where
    at-head : (d : Head) → named t.records name ≡ Some (item.Head d) → effective (inherit_change t name property) d.id property ≡ effective_on_head (put (item_without property (item.Head d)) t.records) property (record d { settings = settings_without property d.settings })
    at-head d f = ap (λ (u : Tree). effective u d.id property) (inherit-is t name property (item.Head d) f) ∙ ap (option_and_then (effective_on (put (item_without property (item.Head d)) t.records) property)) (here-put t (item.Head d) (settings_without property d.settings) (named-there t name (item.Head d) w f))

    bare : (d : Head) → named t.records name ≡ Some (item.Head d) → Bare t property d
    bare d f = record {
      bare = record d { settings = settings_without property d.settings };
      is = refl;
      tree = record { next = t.next; well = subst IsWellFormed (inherit-is t name property (item.Head d) f) (inherit-well t name property w e) };
      there = here-put t (item.Head d) (settings_without property d.settings) (named-there t name (item.Head d) w f);
      before = named-there t name (item.Head d) w f;
      name = refl;
      can = allowed t name property (item.Head d) (kind_of_head d.kind) e f refl;
      holds = ap (λ b. can_have_named (kind_of_head d.kind) property && b) (ap is_some (without-this property d.settings)) ∙ no-and (can_have_named (kind_of_head d.kind) property);
    }

    at-snapshot : (s : Snapshot) → named t.records name ≡ Some (item.Snap s) → effective (inherit_change t name property) s.id property ≡ option_and_then (effective_on_head t.records property) (head_at t s.owner)
    at-snapshot s f =
        let there = named-there t name (item.Snap s) w f in
        let new = settings_without property s.settings in
        let rs = put (with_settings new (item.Snap s)) t.records in
        ap (λ (u : Tree). effective u s.id property) (inherit-is t name property (item.Snap s) f)
        ∙ ap (option_and_then (effective_on rs property)) (here-put t (item.Snap s) new there)
        ∙ ap (λ b. cond b (option_or (own_value property s.id new) (option_and_then (effective_on_head rs property) (option_and_then as_head (at rs s.owner)))) None) (allowed t name property (item.Snap s) kind.Snapshot e f refl)
        ∙ ap (λ o. option_or (option_map (λ (u : Setting). set_on u.value s.id) o) (option_and_then (effective_on_head rs property) (option_and_then as_head (at rs s.owner)))) (without-this property s.settings)
        ∙ ap (option_and_then (effective_on_head rs property)) (heads-same t s new s.owner there)
        ∙ value-same t s new property there (head_at t s.owner)
