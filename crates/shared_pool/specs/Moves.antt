-- What moves the groups on.
use Rattle.std.specs.Prelude.{◌≡◌, ℕ, ◌+◌, Option, Some, None, Result, Ok, Err, List, ◌∷◌, length}
use Rattle.txg_core.specs.Rules.{Origin}
use Rattle.txg_core.specs.History.{syncs, quiesces, begins, ends, event_of}
use Rattle.txg_core.specs.Enabled.{Enabled}
use Rattle.txg_core.specs.declared.event.Entry.{Entry}
use Rattle.txg_core.specs.declared.event.Event.{Event}
use Rattle.txg_core.specs.declared.event.Event.TheVariants as event
use Rattle.shared_pool.specs.declared.answers.Advanced.{Advanced}
use Rattle.shared_pool.specs.declared.answers.Advanced.TheVariants.{Moved, Idle}

-- no call may be synced next
abbrev pub NoneSyncs : {W C R : Type 0} → Origin W C R → List (Entry C) → Type 0
NoneSyncs {C = C} o h = (s : ℕ) (c : C) → ¬ Enabled o h (syncs s c)

-- none of a sync, an end, a begin and a quiesce may come next
pub record NoneMoves {W C R : Type 0} (o : Origin W C R) (h : List (Entry C)) : Type 0 where
  pub no_sync : NoneSyncs o h
  pub no_end : ¬ Enabled o h ends
  pub no_begin : ¬ Enabled o h begins
  pub no_quiesce : ¬ Enabled o h quiesces

-- the event is the first of the four that may come next
abbrev pub IsFirstMove : {W C R : Type 0} → Origin W C R → List (Entry C) → Event → Type 0
IsFirstMove {C = C} o h (event.Sync s) = (c : C) × Enabled o h (syncs s c)
IsFirstMove o h event.End = NoneSyncs o h × Enabled o h ends
IsFirstMove o h event.Begin = NoneSyncs o h × (¬ Enabled o h ends) × Enabled o h begins
IsFirstMove o h event.Quiesce = NoneSyncs o h × (¬ Enabled o h ends) × (¬ Enabled o h begins) × Enabled o h quiesces
IsFirstMove o h _ = ⊥

-- the history goes on by the entry of its first move; with none it stays, and none may come
abbrev pub MovesBy : {W C R : Type 0} → Origin W C R → Option Event → List (Entry C) → List (Entry C) → Type 0
MovesBy {C = C} o (Some v) h new = IsFirstMove o h v × ((e : Entry C) × ((new ≡ e ∷ h) × Enabled o h e × (event_of e ≡ v)))
MovesBy o None h new = (new ≡ h) × NoneMoves o h

-- the entry that an advance makes, by its answer
abbrev pub Advances : {W C R E : Type 0} → Origin W C R → Result Advanced E → List (Entry C) → List (Entry C) → Type 0
Advances o (Ok (Moved v)) h new = MovesBy o (Some v) h new
Advances o (Ok (Idle at)) h new = MovesBy o None h new × (at ≡ length h)
Advances o (Err e) h new = new ≡ h

-- where nothing could be moved, one turn was taken
abbrev pub TakesTurns : {E : Type 0} → Result Advanced E → ℕ → ℕ → Type 0
TakesTurns (Ok (Idle at)) before after = after ≡ before + 1
TakesTurns _ before after = Unit {0}
