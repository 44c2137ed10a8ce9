-- A check as a table: the first row that holds decides.
-- Source: the checks of OpenZFS's sync tasks (dsl_synctask.c: a check answers an errno, and 0 lets the change go on).
use Rattle.std.specs.Prelude.{ℕ, Bool, List, [], ◌∷◌, if◌then◌else◌}
use Rattle.zp_names.specs.declared.verdict.Verdict.{Verdict}

-- an errno without details
abbrev pub refuse : ℕ → Verdict
refuse e = record { errno = e; details = [] }

abbrev pub passed : Verdict
passed = refuse 0

-- the verdict of the first row that holds, else the check passes
abbrev pub first_row : List (Bool × Verdict) → Verdict
first_row [] = passed
first_row (r ∷ rs) = if r.0 then r.1 else first_row rs
