-- The names that calls are made with.
use Rattle.std.specs.Prelude.{◌≡◌, ℕ, true, List, [], ◌∷◌}
use Rattle.std.specs.List.{AllByRecursion}
use Rattle.zp_names.specs.Names.{is_valid_name}
use Rattle.zp_names.specs.declared.command.Command.{Command}
use Rattle.zp_names.specs.declared.command.Command.TheVariants as command
use Rattle.zp_names.specs.declared.command.Query.{Query}
use Rattle.zp_names.specs.declared.command.Query.TheVariants as query
use Rattle.zp_calls.specs.declared.call.Call.{Call}
use Rattle.zp_calls.specs.declared.call.Call.TheVariants as call

abbrev pub names_of_command : Command → List (List ℕ)
names_of_command (command.Create name) = name ∷ []
names_of_command (command.CreateVolume name size) = name ∷ []
names_of_command (command.Snapshot name) = name ∷ []
names_of_command (command.Clone source name) = source ∷ name ∷ []
names_of_command (command.Bookmark source name) = source ∷ name ∷ []
names_of_command (command.Mount name) = name ∷ []
names_of_command (command.Unmount name) = name ∷ []
names_of_command (command.Stamp name value) = name ∷ []
names_of_command (command.Rollback name) = name ∷ []
names_of_command (command.RenameSnapshot name old new) = name ∷ []
names_of_command (command.Destroy name defer) = name ∷ []
names_of_command (command.Promote name) = name ∷ []
names_of_command (command.Rename name to) = name ∷ to ∷ []
names_of_command (command.Set name property value) = name ∷ []
names_of_command (command.Inherit name property) = name ∷ []
names_of_command (command.Hold name tag) = name ∷ []
names_of_command (command.Release name tag) = name ∷ []

abbrev pub names_of_query : Query → List (List ℕ)
names_of_query (query.Exists name) = name ∷ []
names_of_query (query.List kind name after limit) = name ∷ []
names_of_query (query.Get name property) = name ∷ []

abbrev pub names_of : Call → List (List ℕ)
names_of (call.Command c) = names_of_command c
names_of (call.Query q) = names_of_query q

-- they are valid, as every `Name` of the code is
abbrev pub HasValidNames : Call → Type 0
HasValidNames c = AllByRecursion (λ name. is_valid_name name ≡ true) (names_of c)
