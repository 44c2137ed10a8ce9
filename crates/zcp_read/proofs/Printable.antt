-- The reply to a query on a well-formed tree holds texts of UTF-8 alone.
use Rattle.std.proofs.Common.{◌≡◌, ℕ, ◌+◌, nat_lt, List, [], ◌∷◌, ◌++◌, length, is_some, Bool, true, false, cond, not, ◌&&◌, min, map, Option, Some, None, IfSome, All, find, codes, nat_cmp, refl, ap, subst, option_map, option_and_then, arith}
use Rattle.std.specs.List.{list_all, filter_map, cons_option}
use Rattle.std.specs.Option.{option_map_or, option_or}
use Rattle.std.specs.Str.{IsUtf8}
use Rattle.std.specs.Cmp.Lexicographic.{slice_cmp}
use Rattle.std.proofs.lemmas.Bool.{ltb-true}
use Rattle.std.proofs.lemmas.Bool.Decides.{nat_tests}
use Rattle.std.proofs.lemmas.List.Elements.{All-nil, All-cons, All-head, All-tail, All-append, All-take, All-map, All-filter}
use Rattle.std.proofs.lemmas.Map.Views.{All-insert_key}
use Rattle.std.proofs.lemmas.Str.{IsUtf8-from_ascii, IsUtf8-append}
use Rattle.zp_names.specs.declared.command.Query.{Query}
use Rattle.zp_names.specs.declared.command.Query.TheVariants as query
use Rattle.zp_names.specs.declared.list_kind.ListKind.{ListKind}
use Rattle.zp_names.specs.declared.list_kind.ListKind.TheVariants as kind
use Rattle.zp_names.specs.Names.{is_name_byte}
use Rattle.zp_names.proofs.Law.{valid_ascii}
use Rattle.zp_names.proofs.ShortNames.{valid_short_utf8}
use Rattle.zp_props.specs.declared.kind.Kind3.{Kind3}
use Rattle.zp_props.specs.declared.kind.Kind3.TheVariants as kind3
use Rattle.zp_props.specs.declared.prop.Prop.{Prop}
use Rattle.zp_props.specs.declared.prop.Prop.TheVariants as prop
use Rattle.zp_props.specs.declared.setting.Setting.{Setting}
use Rattle.zp_props.specs.declared.setting.PropValue.TheVariants.{Text}
use Rattle.zp_props.specs.Settings.{IsValue, is_user_name, setting_named}
use Rattle.zp_props.specs.Properties.{native, prop_named, can_have_named, default_named, is_inherited}
use Rattle.zp_props.proofs.Texts.{passing_ascii}
use Rattle.zp_calls.specs.declared.reply.Reply.{Reply}
use Rattle.zp_calls.specs.Replies.{IsPrintable}
use Rattle.zp_tree.specs.declared.item.Item.{Item}
use Rattle.zp_tree.specs.declared.item.Item.TheVariants as item
use Rattle.zp_tree.specs.declared.item.Head.{Head}
use Rattle.zp_tree.specs.declared.item.Hold.{Hold}
use Rattle.zp_tree.specs.declared.item.Snapshot.{Snapshot}
use Rattle.zp_tree.specs.Tree.{Tree, at, id_of, as_head, head_name, full_name, named, is_called, Rises}
use Rattle.zp_tree.specs.ShortNames.{in_byte_order}
use Rattle.zp_tree.specs.WellFormed.{IsHead, IsRecord, IsWellFormed}
use Rattle.zp_tree.specs.Settable.{kind_of_item, is_settable_name}
use Rattle.zp_tree.specs.NextByName.{is_above}
use Rattle.zp_tree.specs.Dependents.{is_child_of, is_snapshot_of, is_bookmark_of, is_clone_of}
use Rattle.zp_tree.specs.Inherited.{Told, set_on, by_default, kind_of_head, holds_property, setter_over, longer_named, longest, nearest_setter, setter_for, own_value, value_set_on, default_told, effective_on_head, effective_on, effective}
use Rattle.zp_names.specs.NameMoves.{is_at_or_below}
use Rattle.zp_tree.proofs.Edits.{at-here}
use Rattle.zp_tree.proofs.Looks.{at-later}
use Rattle.zcp_read.specs.Lists.{is_listed_name, name_if, user_names_in, settings_for, settings_from, settings_over, names_in, above, names_listed, most_names}
use Rattle.zcp_read.specs.Told.{is_told, type_text, full_name_at, on_or_off, is_deferred, value_told, with_source, settable_told, property_told, only_told}
use Rattle.zcp_read.specs.Answers.{refused, names_told, list_answer, or_refused, told_answer, item_answer, get_answer, answer_of}

-- ---- the records of a well-formed tree, each by itself

each-record : (n low : ℕ) (rs : List Item) → Rises low rs n → ((i : ℕ) (r : Item) → at rs i ≡ Some r → IsRecord r) → All IsRecord rs
each-record n low [] rises good = All-nil IsRecord
each-record n low (r ∷ rs) rises good =
    All-cons IsRecord r rs (good (id_of r) r (at-here r rs (id_of r) refl)) (each-record n (id_of r + 1) rs rises.1 (λ i u h. good i u (at-later r n rs i u rises.1 h)))

-- what holds of each holds of what is found
found-good : {X : Type 0} (P : X → Type 0) (p : X → Bool) (xs : List X) (x : X) → All P xs → find p xs ≡ Some x → P x
found-good P p [] x all e = cc
found-good P p (y ∷ ys) x all e = by (p y) e (found-good P p ys x (All-tail P y ys all))
  where
    by : (b : Bool) → cond b (Some y) (find p ys) ≡ Some x → (find p ys ≡ Some x → P x) → P x
    by true f later = let is : y ≡ x = cc in subst P is (All-head P y ys all)
    by false f later = later f

-- what holds of each text holds of each of them in byte order
all-ordered : (P : List ℕ → Type 0) (names : List (List ℕ)) → All P names → All P (in_byte_order names)
all-ordered P [] h = h
all-ordered P (x ∷ xs) h = All-insert_key (slice_cmp nat_cmp) x P (in_byte_order xs) (all-ordered P xs (All-tail P x xs h)) (All-head P x xs h)

-- ---- texts

-- words of letters and underscores are UTF-8
word-utf8 : (text : List ℕ) → list_all is_name_byte text ≡ true → IsUtf8 text
word-utf8 text e = IsUtf8-from_ascii text (passing_ascii is_name_byte (λ b f. grind (arith, nat_tests)) text e)

one-ascii : (b : ℕ) → nat_lt b 128 ≡ true → IsUtf8 (b ∷ [])
one-ascii b e = IsUtf8-from_ascii (b ∷ []) (passing_ascii (λ x. nat_lt x 128) (λ x f. ltb-true x 128 f) (b ∷ []) (ap (λ c. c && true) e))

-- ---- settings

-- what holds of the settings of each record
module _ (Q : Setting → Type 0) where
  abbrev HasGood : Item → Type 0
  HasGood (item.Head d) = All Q d.settings
  HasGood (item.Snap s) = All Q s.settings
  HasGood (item.Mark m) = Unit {0}

  for-good : (name : List ℕ) (r : Item) → HasGood r → All Q (settings_for name r)
  for-good name (item.Head d) h = by (is_at_or_below name d.name)
    where
      by : (b : Bool) → All Q (cond b d.settings [])
      by true = h
      by false = All-nil Q
  for-good name (item.Snap s) h = All-nil Q
  for-good name (item.Mark m) h = All-nil Q

  from-good : (rs : List Item) (name : List ℕ) → All HasGood rs → All Q (settings_from rs name)
  from-good [] name h = All-nil Q
  from-good (r ∷ rs) name h = All-append Q (settings_for name r) (settings_from rs name) (for-good name r (All-head HasGood r rs h)) (from-good rs name (All-tail HasGood r rs h))

  over-good : (rs : List Item) (r : Item) → All HasGood rs → HasGood r → All Q (settings_over rs r)
  over-good rs (item.Head d) h here = from-good rs d.name h
  over-good rs (item.Snap s) h here = All-append Q s.settings (option_map_or (settings_from rs) (head_name rs s.owner) []) here (by (head_name rs s.owner))
    where
      by : (o : Option (List ℕ)) → All Q (option_map_or (settings_from rs) o [])
      by None = All-nil Q
      by (Some n) = from-good rs n h
  over-good rs (item.Mark m) h here = All-nil Q

all-so : {X : Type 0} (P Q : X → Type 0) (xs : List X) → ((x : X) → P x → Q x) → All P xs → All Q xs
all-so P Q [] f h = All-nil Q
all-so P Q (x ∷ xs) f h = All-cons Q x xs (f x (All-head P x xs h)) (all-so P Q xs f (All-tail P x xs h))

abbrev IsNamedSo : Setting → Type 0
IsNamedSo s = IsUtf8 s.name

abbrev HasValueSo : Setting → Type 0
HasValueSo s = IsValue s.value

names-good : (r : Item) → IsRecord r → HasGood IsNamedSo r
names-good (item.Head d) g = g.settings.names
names-good (item.Snap s) g = g.settings.names
names-good (item.Mark m) g = tt

values-good : (r : Item) → IsRecord r → HasGood HasValueSo r
values-good (item.Head d) g = g.settings.values
values-good (item.Snap s) g = g.settings.values
values-good (item.Mark m) g = tt

-- ---- one well-formed tree

module _ (t : Tree) (w : IsWellFormed t) where
  every : All IsRecord t.records
  every = each-record t.next 0 t.records w.rises w.agrees.records

  owner-utf8 : (o : Option Item) (i : ℕ) → at t.records i ≡ o → IfSome (option_map (λ (d : Head). d.name) (option_and_then as_head o)) IsUtf8
  owner-utf8 None i e = tt
  owner-utf8 (Some (item.Head d)) i e = let g : IsHead d = w.agrees.records i (item.Head d) e in IsUtf8-from_ascii d.name (valid_ascii d.name g.name)
  owner-utf8 (Some (item.Snap s)) i e = tt
  owner-utf8 (Some (item.Mark m)) i e = tt

  joined-utf8 : (mark : ℕ) (short : List ℕ) (o : Option (List ℕ)) → nat_lt mark 128 ≡ true → IsUtf8 short → IfSome o IsUtf8 → IfSome (option_map (λ n. n ++ (mark ∷ short)) o) IsUtf8
  joined-utf8 mark short None low good h = tt
  joined-utf8 mark short (Some n) low good h = IsUtf8-append n (mark ∷ short) h (IsUtf8-append (mark ∷ []) short (one-ascii mark low) good)

  full-utf8 : (r : Item) → IsRecord r → IfSome (full_name t.records r) IsUtf8
  full-utf8 (item.Head d) g = IsUtf8-from_ascii d.name (valid_ascii d.name g.name)
  full-utf8 (item.Snap s) g = joined-utf8 64 s.short (head_name t.records s.owner) refl (valid_short_utf8 s.short g.short) (owner-utf8 (at t.records s.owner) s.owner refl)
  full-utf8 (item.Mark m) g = joined-utf8 35 m.short (head_name t.records m.owner) refl (valid_short_utf8 m.short g) (owner-utf8 (at t.records m.owner) m.owner refl)

  at-utf8 : (i : ℕ) → IfSome (full_name_at t.records i) IsUtf8
  at-utf8 i = by (at t.records i) refl
    where
      by : (o : Option Item) → at t.records i ≡ o → IfSome (option_and_then (full_name t.records) o) IsUtf8
      by None e = tt
      by (Some r) e = full-utf8 r (w.agrees.records i r e)

  -- ---- lists

  where-utf8 : (stands : Item → Bool) (rs : List Item) → All IsRecord rs → All IsUtf8 (filter_map (name_if t.records stands) rs)
  where-utf8 stands [] h = All-nil IsUtf8
  where-utf8 stands (r ∷ rs) h = by (stands r) (full_name t.records r) (full-utf8 r (All-head IsRecord r rs h)) (where-utf8 stands rs (All-tail IsRecord r rs h))
    where
      by : (b : Bool) (o : Option (List ℕ)) → IfSome o IsUtf8 → All IsUtf8 (filter_map (name_if t.records stands) rs) → All IsUtf8 (cons_option (cond b o None) (filter_map (name_if t.records stands) rs))
      by true None g rest = rest
      by true (Some n) g rest = All-cons IsUtf8 n (filter_map (name_if t.records stands) rs) g rest
      by false o g rest = rest

  user-utf8 : (settings : List Setting) → All IsNamedSo settings → All IsUtf8 (user_names_in settings)
  user-utf8 settings h = All-filter is_user_name IsUtf8 (map (λ (s : Setting). s.name) settings) (All-map IsUtf8 (λ (s : Setting). s.name) settings h)

  user-names-utf8 : (r : Item) → IsRecord r → All IsUtf8 (user_names_in (settings_over t.records r))
  user-names-utf8 r g = user-utf8 (settings_over t.records r) (over-good IsNamedSo t.records r (all-so IsRecord (HasGood IsNamedSo) t.records names-good every) (names-good r g))

  names-utf8 : (k : ListKind) (r : Item) → IsRecord r → All IsUtf8 (names_in t k r)
  names-utf8 kind.Children (item.Head d) g = where-utf8 (is_child_of d.name) t.records every
  names-utf8 kind.Children (item.Snap s) g = All-nil IsUtf8
  names-utf8 kind.Children (item.Mark m) g = All-nil IsUtf8
  names-utf8 kind.Snapshots (item.Head d) g = where-utf8 (is_snapshot_of d.id) t.records every
  names-utf8 kind.Snapshots (item.Snap s) g = All-nil IsUtf8
  names-utf8 kind.Snapshots (item.Mark m) g = All-nil IsUtf8
  names-utf8 kind.Clones (item.Head d) g = All-nil IsUtf8
  names-utf8 kind.Clones (item.Snap s) g = where-utf8 (is_clone_of s.id) t.records every
  names-utf8 kind.Clones (item.Mark m) g = All-nil IsUtf8
  names-utf8 kind.Bookmarks (item.Head d) g = where-utf8 (is_bookmark_of d.id) t.records every
  names-utf8 kind.Bookmarks (item.Snap s) g = All-nil IsUtf8
  names-utf8 kind.Bookmarks (item.Mark m) g = All-nil IsUtf8
  names-utf8 kind.Holds (item.Head d) g = All-nil IsUtf8
  names-utf8 kind.Holds (item.Snap s) g = All-map IsUtf8 (λ (h : Hold). h.tag) s.holds g.texts
  names-utf8 kind.Holds (item.Mark m) g = All-nil IsUtf8
  names-utf8 kind.UserProperties r g = user-names-utf8 r g

  listed-utf8 : (after : List ℕ) (limit : ℕ) (names : List (List ℕ)) → All IsUtf8 names → All IsUtf8 (names_listed after limit names)
  listed-utf8 after limit names h = All-take IsUtf8 limit (above after (in_byte_order names)) (All-filter (λ n. is_above n after) IsUtf8 (in_byte_order names) (all-ordered IsUtf8 names h))

  found-record : (name : List ℕ) (r : Item) → named t.records name ≡ Some r → IsRecord r
  found-record name r e = found-good IsRecord (is_called t.records name) t.records r every e

  list-printable : (k : ListKind) (name after : List ℕ) (limit : ℕ) → IsPrintable (list_answer t k name after limit)
  list-printable k name after limit = by (not (is_listed_name k name)) (named t.records name) refl
    where
      by : (b : Bool) (o : Option Item) → named t.records name ≡ o → IsPrintable (cond b (refused 22) (option_map_or (names_told t k after limit) o (refused 2)))
      by true o e = All-nil IsUtf8
      by false None e = All-nil IsUtf8
      by false (Some r) e = listed-utf8 after (min most_names limit) (names_in t k r) (names-utf8 k r (found-record name r e))

  -- ---- properties

  abbrev IsGoodTold : Told → Type 0
  IsGoodTold (set_on v i) = IsValue v
  IsGoodTold by_default = Unit {0}

  own-good : (p : List ℕ) (i : ℕ) (settings : List Setting) → All HasValueSo settings → IfSome (own_value p i settings) IsGoodTold
  own-good p i settings h = by (setting_named p settings) refl
    where
      by : (o : Option Setting) → setting_named p settings ≡ o → IfSome (option_map (λ (s : Setting). set_on s.value i) o) IsGoodTold
      by None e = tt
      by (Some s) e = found-good HasValueSo _ settings s h e

  or-good : (a b : Option Told) → IfSome a IsGoodTold → IfSome b IsGoodTold → IfSome (option_or a b) IsGoodTold
  or-good None b h g = g
  or-good (Some x) b h g = h

  -- the longest of heads is one of them
  longest-good : (P : Head → Type 0) (ds : List Head) → All P ds → IfSome (longest ds) P
  longest-good P [] h = tt
  longest-good P (d ∷ ds) h = by (longest ds) (longest-good P ds (All-tail P d ds h))
    where
      either : (b : Bool) (e : Head) → P e → P (cond b e d)
      either true e g = g
      either false e g = All-head P d ds h

      by : (o : Option Head) → IfSome o P → P (longer_named d o)
      by None g = All-head P d ds h
      by (Some e) g = either (nat_lt (length d.name) (length e.name)) e g

  default-good : (p : List ℕ) → IfSome (default_told p) IsGoodTold
  default-good p = by (is_some (default_named p))
    where
      by : (b : Bool) → IfSome (cond b (Some by_default) None) IsGoodTold
      by true = tt
      by false = tt

  -- the heads that have the property set
  setters-good : (p name : List ℕ) (rs : List Item) → All IsRecord rs → All (λ (d : Head). All HasValueSo d.settings) (filter_map (setter_over p name) rs)
  setters-good p name [] h = All-nil (λ (d : Head). All HasValueSo d.settings)
  setters-good p name (item.Head d ∷ rs) h = by (is_at_or_below name d.name && holds_property p d) (setters-good p name rs (All-tail IsRecord (item.Head d) rs h))
    where
      by : (b : Bool) → All (λ (e : Head). All HasValueSo e.settings) (filter_map (setter_over p name) rs) → All (λ (e : Head). All HasValueSo e.settings) (cons_option (cond b (Some d) None) (filter_map (setter_over p name) rs))
      by true rest = All-cons (λ (e : Head). All HasValueSo e.settings) d (filter_map (setter_over p name) rs) (values-good (item.Head d) (All-head IsRecord (item.Head d) rs h)) rest
      by false rest = rest
  setters-good p name (item.Snap s ∷ rs) h = setters-good p name rs (All-tail IsRecord (item.Snap s) rs h)
  setters-good p name (item.Mark m ∷ rs) h = setters-good p name rs (All-tail IsRecord (item.Mark m) rs h)

  setter-good : (p : List ℕ) (d : Head) → IsHead d → IfSome (setter_for t.records p d) (λ e. All HasValueSo e.settings)
  setter-good p d g = by (is_inherited p)
    where
      alone : (b : Bool) → IfSome (cond b (Some d) None) (λ e. All HasValueSo e.settings)
      alone true = g.settings.values
      alone false = tt

      by : (b : Bool) → IfSome (cond b (nearest_setter t.records p d.name) (cond (holds_property p d) (Some d) None)) (λ e. All HasValueSo e.settings)
      by true = longest-good (λ (e : Head). All HasValueSo e.settings) (filter_map (setter_over p d.name) t.records) (setters-good p d.name t.records every)
      by false = alone (holds_property p d)

  set-good : (p : List ℕ) (o : Option Head) → IfSome o (λ e. All HasValueSo e.settings) → IfSome (option_and_then (value_set_on p) o) IsGoodTold
  set-good p None h = tt
  set-good p (Some d) h = own-good p d.id d.settings h

  head-good : (p : List ℕ) (d : Head) → IsHead d → IfSome (effective_on_head t.records p d) IsGoodTold
  head-good p d g = by (can_have_named (kind_of_head d.kind) p)
    where
      by : (b : Bool) → IfSome (cond b (option_or (option_and_then (value_set_on p) (setter_for t.records p d)) (default_told p)) None) IsGoodTold
      by true = or-good (option_and_then (value_set_on p) (setter_for t.records p d)) (default_told p) (set-good p (setter_for t.records p d) (setter-good p d g)) (default-good p)
      by false = tt

  owner-good : (p : List ℕ) (i : ℕ) (o : Option Item) → at t.records i ≡ o → IfSome (option_and_then (effective_on_head t.records p) (option_and_then as_head o)) IsGoodTold
  owner-good p i None e = tt
  owner-good p i (Some (item.Head d)) e = head-good p d (w.agrees.records i (item.Head d) e)
  owner-good p i (Some (item.Snap s)) e = tt
  owner-good p i (Some (item.Mark m)) e = tt

  on-good : (p : List ℕ) (r : Item) → IsRecord r → IfSome (effective_on t.records p r) IsGoodTold
  on-good p (item.Head d) g = head-good p d g
  on-good p (item.Snap s) g = by (can_have_named kind3.Snapshot p)
    where
      by : (b : Bool) → IfSome (cond b (option_or (own_value p s.id s.settings) (option_and_then (effective_on_head t.records p) (option_and_then as_head (at t.records s.owner)))) None) IsGoodTold
      by true = or-good (own_value p s.id s.settings) (option_and_then (effective_on_head t.records p) (option_and_then as_head (at t.records s.owner))) (own-good p s.id s.settings g.settings.values) (owner-good p s.owner (at t.records s.owner) refl)
      by false = tt
  on-good p (item.Mark m) g = tt

  effective-good : (i : ℕ) (p : List ℕ) → IfSome (effective t i p) IsGoodTold
  effective-good i p = by (at t.records i) refl
    where
      by : (o : Option Item) → at t.records i ≡ o → IfSome (option_and_then (effective_on t.records p) o) IsGoodTold
      by None e = tt
      by (Some r) e = on-good p r (w.agrees.records i r e)

  native-default : (p : Prop) → IfSome (native p).default IsValue
  native-default prop.DatasetType = tt
  native-default prop.Guid = tt
  native-default prop.Createtxg = tt
  native-default prop.Stamp = tt
  native-default prop.Origin = tt
  native-default prop.Userrefs = tt
  native-default prop.DeferDestroy = tt
  native-default prop.Clones = tt
  native-default prop.Readonly = word-utf8 (codes "off") refl
  native-default prop.Atime = word-utf8 (codes "on") refl
  native-default prop.Exec = word-utf8 (codes "on") refl
  native-default prop.Setuid = word-utf8 (codes "on") refl
  native-default prop.Devices = word-utf8 (codes "on") refl
  native-default prop.Snapdir = word-utf8 (codes "hidden") refl
  native-default prop.Sync = word-utf8 (codes "standard") refl
  native-default prop.Primarycache = word-utf8 (codes "all") refl
  native-default prop.Copies = tt
  native-default prop.Recordsize = tt
  native-default prop.Canmount = word-utf8 (codes "on") refl
  native-default prop.Volsize = tt

  named-default : (name : List ℕ) → IfSome (default_named name) IsValue
  named-default name = by (is_user_name name) (prop_named name)
    where
      by : (b : Bool) (o : Option Prop) → IfSome (cond b None (option_and_then (λ p. (native p).default) o)) IsValue
      by true o = tt
      by false None = tt
      by false (Some p) = native-default p

  told-printable : (name : List ℕ) (told : Told) → IsGoodTold told → IsPrintable (with_source t.records name told)
  told-printable name (set_on v i) g = (g, at-utf8 i)
  told-printable name by_default g = (named-default name, word-utf8 (codes "default") refl)

  settable-printable : (name : List ℕ) (r : Item) → IfSome (settable_told t name r) IsPrintable
  settable-printable name r = by (effective t (id_of r) name) (effective-good (id_of r) name)
    where
      by : (o : Option Told) → IfSome o IsGoodTold → IfSome (option_map (with_source t.records name) o) IsPrintable
      by None g = tt
      by (Some told) g = told-printable name told g

  type-good : (k : Kind3) → IsUtf8 (type_text k)
  type-good kind3.Filesystem = word-utf8 (codes "filesystem") refl
  type-good kind3.Volume = word-utf8 (codes "volume") refl
  type-good kind3.Snapshot = word-utf8 (codes "snapshot") refl

  flag-good : (b : Bool) → IsUtf8 (on_or_off b)
  flag-good true = word-utf8 (codes "on") refl
  flag-good false = word-utf8 (codes "off") refl

  text-good : (o : Option (List ℕ)) → IfSome o IsUtf8 → IfSome (option_map Text o) IsValue
  text-good None h = tt
  text-good (Some n) h = h

  origin-good : (o : Option ℕ) → IfSome (option_map Text (option_and_then (full_name_at t.records) o)) IsValue
  origin-good None = tt
  origin-good (Some i) = text-good (full_name_at t.records i) (at-utf8 i)

  value-good : (k : Kind3) (r : Item) (p : Prop) → IfSome (value_told t.records k r p) IsValue
  value-good k r prop.DatasetType = type-good k
  value-good k r prop.Guid = tt
  value-good k r prop.Createtxg = tt
  value-good k r prop.Stamp = tt
  value-good k r prop.Origin = origin-good (option_and_then (λ (d : Head). d.origin) (as_head r))
  value-good k r prop.Userrefs = tt
  value-good k r prop.DeferDestroy = flag-good (is_deferred r)
  value-good k r _ = tt

  of-printable : (name : List ℕ) (r : Item) (k : Kind3) → IfSome (property_told t name r k) IsPrintable
  of-printable name r k = by (can_have_named k name) (prop_named name)
    where
      by : (b : Bool) (o : Option Prop) → IfSome (cond b (settable_told t name r) (option_map (λ p. only_told (value_told t.records k r p)) o)) IsPrintable
      by true o = settable-printable name r
      by false None = tt
      by false (Some p) = (value-good k r p, tt)

  or-printable : (o : Option Reply) → IfSome o IsPrintable → IsPrintable (or_refused o 2)
  or-printable None h = All-nil IsUtf8
  or-printable (Some told) h = h

  kind-printable : (name : List ℕ) (r : Item) (o : Option Kind3) → IsPrintable (option_map_or (told_answer t name r) o (refused 22))
  kind-printable name r None = All-nil IsUtf8
  kind-printable name r (Some k) = by (not (is_told name k))
    where
      by : (b : Bool) → IsPrintable (cond b (refused 22) (or_refused (property_told t name r k) 2))
      by true = All-nil IsUtf8
      by false = or-printable (property_told t name r k) (of-printable name r k)

  get-printable : (name property : List ℕ) → IsPrintable (get_answer t name property)
  get-printable name property = by (not (is_settable_name name)) (named t.records name)
    where
      by : (b : Bool) (o : Option Item) → IsPrintable (cond b (refused 22) (option_map_or (item_answer t property) o (refused 2)))
      by true o = All-nil IsUtf8
      by false None = All-nil IsUtf8
      by false (Some r) = kind-printable property r (kind_of_item r)

pub answer-printable : (t : Tree) (q : Query) → IsWellFormed t → IsPrintable (answer_of t q)
answer-printable t (query.Exists name) w = tt
answer-printable t (query.List k name after limit) w = list-printable t w k name after limit
answer-printable t (query.Get name property) w = get-printable t w name property
