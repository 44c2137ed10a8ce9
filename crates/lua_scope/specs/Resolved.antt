-- What the tables of a resolver say of what a walk has met.
use Rattle.std.specs.Prelude.{◌≡◌, ℕ, ◌<◌, false, List, [], ◌++◌, All, length, Option, Some, None, Bool, slice_index_or}
use Rattle.lua_scope.specs.declared.occurrence.Occurrence.{Occurrence}
use Rattle.lua_scope.specs.declared.resolver.Resolver.{Resolver}
use Rattle.lua_scope.specs.declared.tables.Tables.{Tables}
use Rattle.lua_scope.specs.Scope.{declared, first_variable, scope}
use Rattle.lua_scope.specs.declared.load_error.LoadError.{LoadError}
use Rattle.lua_scope.specs.declared.load_error.LoadError.TheVariants.{NoMemory}
use Rattle.lua_scope.specs.Refusals.{first_refusal}
use Rattle.lua_scope.specs.Walking.{OccurrenceBelow}
use Rattle.lua_scope.specs.Variables.{variable_of, is_captured, captured_by}

-- Tables for n nodes tell what the variables are, where a walk has met this.
pub record VariablesAre (n count : ℕ) (first : List ℕ) (meanings : List (Option ℕ)) (captured : List (List ℕ)) (flags : List Bool) (seen : List Occurrence) : Type 0 where
  pub declared_is : count ≡ declared seen
  pub first_count : length first ≡ n
  pub first_is : (i : ℕ) → slice_index_or first i 0 ≡ first_variable seen i
  pub meaning_count : length meanings ≡ n
  pub meaning_is : (i : ℕ) → slice_index_or meanings i None ≡ variable_of seen i
  pub captured_count : length captured ≡ n
  pub captured_is : (i : ℕ) → i < n → slice_index_or captured i [] ≡ captured_by seen i
  pub flag_is : (v : ℕ) → slice_index_or flags v false ≡ is_captured seen v

pub record Resolved (n : ℕ) (r : Resolver) (seen : List Occurrence) : Type 0 where
  pub scope_is : r.scope ≡ scope seen
  pub variables_are : VariablesAre n r.declared r.first.items r.meanings.items r.captured.items r.is_captured.items seen

-- what is left of them at the end
abbrev pub TablesAre : ℕ → Tables → List Occurrence → Type 0
TablesAre n t seen = VariablesAre n t.declared t.first.items t.meanings.items t.captured.items t.is_captured.items seen

-- A resolver in the middle of a text: `left` are the occurrences that are still to come, the last one first, and `whole` is all that the walk through the text meets.
pub record Running (n : ℕ) (r : Resolver) (left whole : List Occurrence) : Type 0 where
  pub done : List Occurrence
  pub joined : left ++ done ≡ whole
  pub tables : Resolved n r done
  pub clear : first_refusal done ≡ None
  pub below : All (OccurrenceBelow n) left

-- The error is this first refusal, or memory was wanting, of which nothing is said.
abbrev pub IsFirstRefusal : Option LoadError → LoadError → Type 0
IsFirstRefusal first NoMemory = Unit {0}
IsFirstRefusal first e = first ≡ Some e
