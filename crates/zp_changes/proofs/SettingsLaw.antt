-- A dataset whose settings change, in a well-formed tree.
use Rattle.std.proofs.Common.{◌≡◌, ℕ, ◌+◌, ◌<◌, ◌≤◌, List, [], ◌∷◌, length, Bool, true, false, not, ◌&&◌, cond, Option, Some, None, IsSome, is_some, is_err, Result, Ok, Err, nat_le, refl, sym, ap, subst, ◌∙◌, inl, inr, arith, sum_by, option_map, option_and_then, bytes_eq, find}
use Rattle.std.specs.Option.{option_map_or}
use Rattle.std.specs.Result.{result_ok}
use Rattle.std.proofs.lemmas.Bool.{cases_eq, eq-eqb, ne_eqb, cases_Bool, leb-false, and_parts}
use Rattle.std.proofs.lemmas.List.Sums.{sum_by-cons}
use Rattle.std.proofs.lemmas.Slice.Eq.{bytes_eq-Decides}
use Rattle.zp_props.specs.declared.setting.Setting.{Setting}
use Rattle.zp_props.specs.declared.kind.Kind3.{Kind3}
use Rattle.zp_props.specs.declared.bad_setting.BadSetting.{BadSetting}
use Rattle.zp_props.specs.Settings.{AreSettings, is_user_name, has_setting, user_count, settings_with, settings_without, volsize}
use Rattle.zp_props.specs.UserProperties.{is_valid_user_name}
use Rattle.zp_props.specs.ReadSetting.{setting_or_refusal}
use Rattle.zp_props.specs.Properties.{can_have_named}
use Rattle.zp_props.proofs.SettingLaws.{with-good, without-good, with-count, with-count-known, without-count, with-has, without-has}
use Rattle.zp_props.proofs.SettingTexts.{IsReadAs, reads-good}
use Rattle.zp_tree.specs.declared.item.Item.{Item}
use Rattle.zp_tree.specs.declared.item.Item.TheVariants as item
use Rattle.zp_tree.specs.declared.item.Head.{Head}
use Rattle.zp_tree.specs.declared.item.Snapshot.{Snapshot}
use Rattle.zp_tree.specs.Tree.{Tree, at, id_of, put, as_snapshot, named, is_called, replaced}
use Rattle.zp_tree.specs.WellFormed.{snapshot_in, user_settings, most_user_settings, IsHead, IsSnapshot, IsRecord, Agrees, IsWellFormed}
use Rattle.zp_tree.specs.Rows.{passed}
use Rattle.zp_tree.specs.Settable.{kind_of_item, settings_of_item, with_settings, kind_named, settings_named}
use Rattle.zp_tree.specs.SetProperty.{is_one_too_many, set_rows, set_check, setting_on, item_with, tree_with, set_change}
use Rattle.zp_tree.specs.InheritProperty.{can_be_taken_away, inherit_rows, inherit_check, item_without, inherit_change}
use Rattle.zp_tree.proofs.Rising.{rises-put}
use Rattle.zp_tree.proofs.Edits.{edit, edit-here, edit-other, look-put, length-put}
use Rattle.zp_tree.proofs.Changing.{agrees-changed-head, agrees-changed-snapshot}
use Rattle.zp_tree.proofs.Clear.{clear, not-false}
use Rattle.zp_tree.proofs.Looks.{found-at}

-- a record in the place of another changes a sum by what it weighs
sum-replaced : (f : Item → ℕ) (x r : Item) (rs : List Item) → at rs (id_of x) ≡ Some r → sum_by f (put x rs) + f r ≡ sum_by f rs + f x
sum-replaced f x r [] e = cc
sum-replaced f x r (y ∷ rs) e = elim (cases_eq (id_of y) (id_of x)) [
  | inl here ↦
      let is : Some y ≡ Some r = sym (ap (λ b. cond b (Some y) (at rs (id_of x))) (eq-eqb (id_of y) (id_of x) here)) ∙ e in
      let it : f y ≡ f r = (let same : y ≡ r = cc in ap f same) in
      let new : sum_by f (put x (y ∷ rs)) ≡ f x + sum_by f rs = ap (λ b. sum_by f (cond b (x ∷ rs) (y ∷ put x rs))) (eq-eqb (id_of y) (id_of x) here) ∙ sum_by-cons f x rs in
      let old = sum_by-cons f y rs in omega arith
  | inr there ↦
      let new : sum_by f (put x (y ∷ rs)) ≡ f y + sum_by f (put x rs) = ap (λ b. sum_by f (cond b (x ∷ rs) (y ∷ put x rs))) (ne_eqb (id_of y) (id_of x) there) ∙ sum_by-cons f y (put x rs) in
      let rest = sum-replaced f x r rs (sym (ap (λ b. cond b (Some y) (at rs (id_of x))) (ne_eqb (id_of y) (id_of x) there)) ∙ e) in
      let old = sum_by-cons f y rs in omega arith
]

-- a record in its own place
put-same : (x : Item) (rs : List Item) → at rs (id_of x) ≡ Some x → put x rs ≡ rs
put-same x [] e = cc
put-same x (y ∷ rs) e = elim (cases_eq (id_of y) (id_of x)) [
  | inl here ↦ (let is : Some y ≡ Some x = sym (ap (λ b. cond b (Some y) (at rs (id_of x))) (eq-eqb (id_of y) (id_of x) here)) ∙ e in
      let it : x ≡ y = cc in
      ap (λ b. cond b (x ∷ rs) (y ∷ put x rs)) (eq-eqb (id_of y) (id_of x) here) ∙ ap (λ z. z ∷ rs) it)
  | inr there ↦ ap (λ b. cond b (x ∷ rs) (y ∷ put x rs)) (ne_eqb (id_of y) (id_of x) there) ∙ ap (λ zs. y ∷ zs) (put-same x rs (sym (ap (λ b. cond b (Some y) (at rs (id_of x))) (ne_eqb (id_of y) (id_of x) there)) ∙ e))
]

-- settings that a record can have in the place of its own
pub record Fit (r : Item) (new : List Setting) : Type 0 where
  pub good : AreSettings (settings_of_item r) → AreSettings new
  pub sized : has_setting volsize (settings_of_item r) ≡ true → has_setting volsize new ≡ true

-- the tree with a record whose settings change is well formed, where all user settings together are few
pub resettled : (t : Tree) (r : Item) (new : List Setting) → IsWellFormed t → at t.records (id_of r) ≡ Some r → Fit r new →
    sum_by user_settings (put (with_settings new r) t.records) ≤ most_user_settings → IsWellFormed (replaced t (with_settings new r))
resettled t (item.Head d) new w there fit few =
    let good : IsHead d = w.agrees.records d.id (item.Head d) there in
    let e = record d { settings = new } in record {
      rises = rises-put 0 t.next (item.Head e) t.records w.rises;
      agrees = subst Agrees (sym (look-put (item.Head e) t.records (ap is_some there))) (agrees-changed-head (at t.records) d.id d e there w.agrees
          (record { name = good.name; form = good.form; settings = fit.good good.settings; size = λ v. fit.sized (good.size v) }) refl refl refl);
      few_records = (let same : length (put (item.Head e) t.records) ≡ length t.records = length-put (item.Head e) t.records in let short = w.few_records in omega arith);
      few_settings = few;
    }
resettled t (item.Snap s) new w there fit few =
    let good : IsSnapshot s = w.agrees.records s.id (item.Snap s) there in
    let here : snapshot_in (at t.records) s.id ≡ Some s = ap (option_and_then as_snapshot) there in
    let u = record s { settings = new } in record {
      rises = rises-put 0 t.next (item.Snap u) t.records w.rises;
      agrees = subst Agrees (sym (look-put (item.Snap u) t.records (ap is_some there))) (agrees-changed-snapshot (at t.records) s.id s u there w.agrees
          (record { short = good.short; settings = fit.good good.settings; tags = good.tags; texts = good.texts }) refl
          (λ i v h other so ss. other (w.agrees.shorts i s.id v s h here so ss))
          (w.agrees.deferred s.id s here));
      few_records = (let same : length (put (item.Snap u) t.records) ≡ length t.records = length-put (item.Snap u) t.records in let short = w.few_records in omega arith);
      few_settings = few;
    }
resettled t (item.Mark m) new w there fit few = subst IsWellFormed (sym (ap (λ (rs : List Item). record t { records = rs }) (put-same (item.Mark m) t.records there))) w

-- ---- set

pub read-on : (r : Item) (k : Kind3) (property value : List ℕ) (s : Setting) → kind_of_item r ≡ Some k → setting_on r property value ≡ Some s → setting_or_refusal k property value ≡ Ok s
read-on r k property value s kind e = go (setting_or_refusal k property value) (sym (ap (option_and_then (λ k. result_ok (setting_or_refusal k property value))) kind) ∙ e)
  where
    go : (o : Result Setting BadSetting) → result_ok o ≡ Some s → o ≡ Ok s
    go (Ok u) f = let it : u ≡ s = cc in ap (λ (x : Setting). Ok x) it
    go (Err b) f = cc

-- what a record weighs
weighs : (r : Item) (k : Kind3) → kind_of_item r ≡ Some k → user_settings r ≡ user_count (settings_of_item r)
weighs (item.Head d) k e = refl
weighs (item.Snap s) k e = refl
weighs (item.Mark m) k e = cc

weighs-with : (r : Item) (k : Kind3) (new : List Setting) → kind_of_item r ≡ Some k → user_settings (with_settings new r) ≡ user_count new
weighs-with (item.Head d) k new e = refl
weighs-with (item.Snap s) k new e = refl
weighs-with (item.Mark m) k new e = cc

pub id-kept : (r : Item) (new : List Setting) → id_of (with_settings new r) ≡ id_of r
id-kept (item.Head d) new = refl
id-kept (item.Snap s) new = refl
id-kept (item.Mark m) new = refl

-- the record of a name stands at its id
pub named-there : (t : Tree) (name : List ℕ) (r : Item) → IsWellFormed t → named t.records name ≡ Some r → at t.records (id_of r) ≡ Some r
named-there t name r w f = found-at (is_called t.records name) 0 t.next t.records r w.rises f

-- at its id there is the new record, and elsewhere what was there
pub here-put : (t : Tree) (r : Item) (new : List Setting) → at t.records (id_of r) ≡ Some r → at (put (with_settings new r) t.records) (id_of r) ≡ Some (with_settings new r)
here-put t r new there =
    let x = with_settings new r in
    let same = id-kept r new in
    ap (λ (look : ℕ → Option Item). look (id_of r)) (look-put x t.records (ap is_some (ap (at t.records) same ∙ there))) ∙ ap (λ n. edit (at t.records) n (Some x) (id_of r)) same ∙ edit-here (at t.records) (id_of r) (Some x)

pub else-put : (t : Tree) (r : Item) (new : List Setting) (i : ℕ) → at t.records (id_of r) ≡ Some r → (i ≡ id_of r → ⊥) → at (put (with_settings new r) t.records) i ≡ at t.records i
else-put t r new i there other =
    let x = with_settings new r in
    let same = id-kept r new in
    ap (λ (look : ℕ → Option Item). look i) (look-put x t.records (ap is_some (ap (at t.records) same ∙ there))) ∙ edit-other (at t.records) (id_of x) (Some x) i (λ e. other (e ∙ same))

-- the sum of all user settings after one record's settings change
total : (t : Tree) (r : Item) (k : Kind3) (new : List Setting) → at t.records (id_of r) ≡ Some r → kind_of_item r ≡ Some k →
    sum_by user_settings (put (with_settings new r) t.records) + user_count (settings_of_item r) ≡ sum_by user_settings t.records + user_count new
total t r k new there kind =
    let sum = sum-replaced user_settings (with_settings new r) r t.records (ap (at t.records) (id-kept r new) ∙ there) in
    ap (λ n. sum_by user_settings (put (with_settings new r) t.records) + n) (sym (weighs r k kind)) ∙ sum ∙ ap (λ n. sum_by user_settings t.records + n) (weighs-with r k new kind)

few-with : (t : Tree) (r : Item) (k : Kind3) (s : Setting) → IsWellFormed t → at t.records (id_of r) ≡ Some r → kind_of_item r ≡ Some k → is_one_too_many t (settings_of_item r) s.name ≡ false →
    sum_by user_settings (put (item_with s r) t.records) ≤ most_user_settings
few-with t r k s w there kind row = go (is_user_name s.name) refl (has_setting s.name (settings_of_item r)) refl (nat_le most_user_settings (sum_by user_settings t.records)) refl row
  where
    sum : sum_by user_settings (put (item_with s r) t.records) + user_count (settings_of_item r) ≡ sum_by user_settings t.records + user_count (settings_with s (settings_of_item r))
    sum = total t r k (settings_with s (settings_of_item r)) there kind

    one : user_count (settings_with s (settings_of_item r)) ≤ user_count (settings_of_item r) + cond (is_user_name s.name) 1 0
    one = with-count s (settings_of_item r)

    go : (a : Bool) → is_user_name s.name ≡ a → (b : Bool) → has_setting s.name (settings_of_item r) ≡ b → (c : Bool) → nat_le most_user_settings (sum_by user_settings t.records) ≡ c → (a && not b && c) ≡ false → sum_by user_settings (put (item_with s r) t.records) ≤ most_user_settings
    go false f b g c h e = (let less = subst (λ (a : Bool). user_count (settings_with s (settings_of_item r)) ≤ user_count (settings_of_item r) + cond a 1 0) f one in let same = sum in let before = w.few_settings in omega arith)
    go true f true g c h e = (let known = with-count-known s (settings_of_item r) g in let same = sum in let before = w.few_settings in omega arith)
    go true f false g true h e = cc
    go true f false g false h e = (let less = subst (λ (a : Bool). user_count (settings_with s (settings_of_item r)) ≤ user_count (settings_of_item r) + cond a 1 0) f one in let room : sum_by user_settings t.records < most_user_settings = leb-false most_user_settings (sum_by user_settings t.records) h in let same = sum in omega arith)

pub set-well : (t : Tree) (name property value : List ℕ) → IsWellFormed t → set_check t name property value ≡ passed → IsWellFormed (set_change t name property value)
set-well t name property value w e = go (named t.records name) refl
  where
    row : is_one_too_many t (settings_named t name) property ≡ false
    row = (clear (set_rows t name property value) refl e).1.1.1.1.0

    made : (r : Item) → named t.records name ≡ Some r → (k : Kind3) → kind_of_item r ≡ Some k → (s : Setting) → setting_on r property value ≡ Some s → IsWellFormed (replaced t (item_with s r))
    made r f k kind s g =
        let read = reads-good k property value s (read-on r k property value s kind g) in
        let there = named-there t name r w f in
        let few = few-with t r k s w there kind (ap (λ (xs : List Setting). is_one_too_many t xs s.name) (sym (ap (λ o. option_map_or settings_of_item o []) f)) ∙ ap (is_one_too_many t (settings_named t name)) read.named ∙ row) in
        resettled t r (settings_with s (settings_of_item r)) w there
        (record { good = with-good s (settings_of_item r) read.text read.value; sized = with-has s volsize (settings_of_item r) })
        few

    either : (r : Item) → named t.records name ≡ Some r → (k : Option Kind3) → kind_of_item r ≡ k → (o : Option Setting) → setting_on r property value ≡ o → IsWellFormed (option_map_or (replaced t) (option_map (λ s. item_with s r) o) t)
    either r f k kind None g = w
    either r f None kind (Some s) g = let no : None ≡ Some s = sym (ap (option_and_then (λ k. result_ok (setting_or_refusal k property value))) kind) ∙ g in cc
    either r f (Some k) kind (Some s) g = made r f k kind s g

    go : (o : Option Item) → named t.records name ≡ o → IsWellFormed (option_map_or (tree_with t property value) o t)
    go None f = w
    go (Some r) f = either r f (kind_of_item r) refl (setting_on r property value) refl

-- ---- inherit

other-than-volsize : (property : List ℕ) (k : Kind3) → can_be_taken_away property k ≡ true → bytes_eq property volsize ≡ false
other-than-volsize property k e = elim (cases_Bool (bytes_eq property volsize)) [
  | inl same ↦ (let is : property ≡ volsize = (bytes_eq-Decides property volsize).0 same in
      let none : is_user_name property ≡ false = ap is_user_name is in
      let no : (can_have_named k property && not (bytes_eq property volsize)) ≡ true = sym (ap (λ b. cond b (is_valid_user_name property) (can_have_named k property && not (bytes_eq property volsize))) none) ∙ e in
      let kept : not (bytes_eq property volsize) ≡ true = (and_parts (can_have_named k property) (not (bytes_eq property volsize)) no).1 in
      let clash : false ≡ true = sym (ap not same) ∙ kept in cc)
  | inr other ↦ other
]

pub inherit-well : (t : Tree) (name property : List ℕ) → IsWellFormed t → inherit_check t name property ≡ passed → IsWellFormed (inherit_change t name property)
inherit-well t name property w e = go (named t.records name) refl
  where
    row : option_map_or (λ k. not (can_be_taken_away property k)) (kind_named t name) false ≡ false
    row = (clear (inherit_rows t name property) refl e).1.1.0

    there_is : not (is_some (kind_named t name)) ≡ false
    there_is = (clear (inherit_rows t name property) refl e).1.0

    either : (r : Item) → named t.records name ≡ Some r → (k : Option Kind3) → kind_of_item r ≡ k → IsWellFormed (replaced t (item_without property r))
    either r f None kind = let no : true ≡ false = sym (ap (λ (o : Option Item). not (is_some (option_and_then kind_of_item o))) f ∙ ap (λ (o : Option Kind3). not (is_some o)) kind) ∙ there_is in cc
    either r f (Some k) kind =
        let allowed : can_be_taken_away property k ≡ true = not-false (can_be_taken_away property k) (sym (ap (λ (o : Option Item). option_map_or (λ k. not (can_be_taken_away property k)) (option_and_then kind_of_item o) false) f ∙ ap (λ (o : Option Kind3). option_map_or (λ k. not (can_be_taken_away property k)) o false) kind) ∙ row) in
        let there = named-there t name r w f in
        let xs = settings_of_item r in
        let sum = total t r k (settings_without property xs) there kind in
        let fewer = without-count property xs in
        let before = w.few_settings in
        resettled t r (settings_without property xs) w there
        (record { good = without-good property xs; sized = without-has property volsize xs (other-than-volsize property k allowed) })
        (omega arith)

    go : (o : Option Item) → named t.records name ≡ o → IsWellFormed (option_map_or (λ r. replaced t (item_without property r)) o t)
    go None f = w
    go (Some r) f = either r f (kind_of_item r) refl
