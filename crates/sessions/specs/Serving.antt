-- What a session's calls make of the history.
use Rattle.std.specs.Prelude.{◌≡◌, ℕ, ◌+◌, ◌<◌, false, Option, Some, List, [], ◌∷◌, ◌++◌, length, slice_get}
use Rattle.txg_core.specs.Rules.{Meaning, Origin}
use Rattle.txg_core.specs.Openings.{origin_at}
use Rattle.txg_core.specs.Serial.{next, given}
use Rattle.txg_core.specs.Sessions.{phase, idle}
use Rattle.txg_core.specs.Enabled.{Legal}
use Rattle.txg_core.specs.declared.event.Entry.{Entry}
use Rattle.txg_core.specs.declared.event.Entry.TheVariants.{Call, Group}
use Rattle.shared_pool.specs.Passes.{PassView, is_pass_busy, calls_left}

-- each entry of session s carries its call of the number that was next; calls n is its call n
abbrev pub CarriesOwn : {W C R : Type 0} → Origin W C R → ℕ → (ℕ → Option C) → List (Entry C) → Type 0
CarriesOwn o s calls [] = Unit {0}
CarriesOwn o s calls (Call step t c ∷ h) = (t ≡ s → calls (next o h s) ≡ Some c) × CarriesOwn o s calls h
CarriesOwn o s calls (Group transition ∷ h) = CarriesOwn o s calls h

-- from a history to a longer one, which is legal, session s made these calls and was given these replies
pub record Serves {W C R : Type 0} (o : Origin W C R) (s : ℕ) (front : List (Entry C)) (calls : List C) (replies : List R) (new : List (Entry C)) : Type 0 where
  pub legal : Legal o new
  pub idle_now : phase o new s ≡ idle
  pub number : next o new s ≡ next o front s + length calls
  pub gave : given o new s ≡ given o front s ++ replies
  pub carries : (all : ℕ → Option C) → ((k : ℕ) → k < length calls → all (next o front s + k) ≡ slice_get calls k) → CarriesOwn o s all front → CarriesOwn o s all new

-- the pass is idle, and these are as many calls as its session has left
pub record MayMake {O W C R : Type 0} (means : O → Meaning W C R) (p : PassView O C) (calls : List C) : Type 0 where
  pub legal : Legal (origin_at means p.opening) p.front
  pub idle_now : is_pass_busy means p ≡ false
  pub left : calls_left means p ≡ length calls
