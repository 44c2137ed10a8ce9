-- The place of a refusal in a document. Paths and refusals are this project's own.
use Rattle.std.specs.Prelude.{ℕ, List, ◌∷◌, ◌++◌, Result, Ok, Err}
use Rattle.zc_doc.specs.declared.error.DocError.{DocError}
use Rattle.zc_doc.specs.declared.error.DocError.TheVariants as refusal

-- a path one step longer at its front: 47 is the slash
abbrev pub path_behind : List ℕ → List ℕ → List ℕ
path_behind step path = 47 ∷ (step ++ path)

-- a refusal of a part, as one of the whole in which this step leads to the part
abbrev pub behind : List ℕ → DocError → DocError
behind step (refusal.TooLong count) = refusal.TooLong count
behind step refusal.NotJson = refusal.NotJson
behind step (refusal.Unknown path) = refusal.Unknown (path_behind step path)
behind step (refusal.Missing path) = refusal.Missing (path_behind step path)
behind step (refusal.BadType path) = refusal.BadType (path_behind step path)
behind step (refusal.TooMany path count) = refusal.TooMany (path_behind step path) count
behind step (refusal.BadLimit path) = refusal.BadLimit (path_behind step path)
behind step (refusal.BadName path) = refusal.BadName (path_behind step path)
behind step (refusal.SetupRefused index errno) = refusal.SetupRefused index errno
behind step refusal.NoMemory = refusal.NoMemory

-- what was read of a part, with its refusal told of the whole
abbrev pub below_step : {A : Type 0} → List ℕ → Result A DocError → Result A DocError
below_step step (Ok x) = Ok x
below_step step (Err e) = Err (behind step e)
