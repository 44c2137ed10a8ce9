-- What a name is made of.
use Rattle.std.specs.Prelude.{ℕ, ◌==◌, ◌&&◌, Bool, true, false, nat_eq, nat_le, not, if◌then◌else◌, List, [], ◌∷◌, ◌++◌, length, Option, Some, None, find}
use Rattle.std.specs.List.{before_first, before_last, list_any, starts_with}
use Rattle.zp_names.specs.declared.form.Form.{Form}
use Rattle.zp_names.specs.declared.form.Form.TheVariants as form
use Rattle.zp_names.specs.Names.{is_slash, is_mark, is_separator, is_head}

-- the form that a mark gives a name
abbrev pub form_by : Option ℕ → Form
form_by None = form.Head
form_by (Some b) = if b == 64 then form.Snap else form.Bookmark

-- the form of a name, by its mark
abbrev pub form_of : List ℕ → Form
form_of t = form_by (find is_mark t)

abbrev pub is_snapshot_form : Form → Bool
is_snapshot_form form.Head = false
is_snapshot_form form.Snap = true
is_snapshot_form form.Bookmark = false

-- the name of a snapshot
abbrev pub is_snapshot_name : List ℕ → Bool
is_snapshot_name t = is_snapshot_form (form_of t)

-- the full name of a dataset's snapshot
abbrev pub snapshot_name : List ℕ → List ℕ → List ℕ
snapshot_name head short = head ++ (64 ∷ short)

-- the full name of a dataset's bookmark
abbrev pub bookmark_name : List ℕ → List ℕ → List ℕ
bookmark_name head short = head ++ (35 ∷ short)

-- the text, where it is no longer than a name may be: 255 bytes
abbrev pub within_name : List ℕ → Option (List ℕ)
within_name t = if nat_le (length t) 255 then Some t else None

-- a name of this form, from its head and its short name
abbrev pub written : Form → List ℕ → List ℕ → List ℕ
written form.Head head short = head
written form.Snap head short = snapshot_name head short
written form.Bookmark head short = bookmark_name head short

-- the first part: the pool
abbrev pub pool_of : List ℕ → List ℕ
pool_of t = before_first is_separator t

-- a name of one part without a mark: that of a pool
abbrev pub is_pool : List ℕ → Bool
is_pool t = not (list_any is_separator t)

-- the name without its last part, of a head of two or more parts
abbrev pub parent_of : List ℕ → Option (List ℕ)
parent_of t = if is_head t && list_any is_slash t then Some (before_last is_slash t) else None

-- of two heads, the first begins with the second and a slash
abbrev pub is_below : List ℕ → List ℕ → Bool
is_below x y = is_head x && is_head y && starts_with nat_eq x (y ++ 47 ∷ [])
