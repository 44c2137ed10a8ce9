-- What the words of the command line ask for.
use Rattle.std.specs.Prelude.{if◌then◌else◌, List, [], ◌∷◌, ℕ, codes, bytes_eq, Option, Some, None, String, string_bytes}
use Rattle.std.specs.declared.alloc.Global.{Global}
use Rattle.zc_offline.specs.declared.words.Asked.{Asked}
use Rattle.zc_offline.specs.declared.words.Asked.TheVariants.{Replay, Check}

-- what is asked by a command that takes no arguments
abbrev pub without_arguments : Asked → List (String Global) → Option Asked
without_arguments a [] = Some a
without_arguments a (w ∷ ws) = None

-- what the command of this name asks with these arguments
abbrev pub command_asked : List ℕ → List (String Global) → Option Asked
command_asked name arguments =
    if bytes_eq name (codes "replay") then without_arguments Replay arguments
    else (if bytes_eq name (codes "check") then without_arguments Check arguments else None)

-- the first word names the command, and the others are its arguments
abbrev pub asked : List (String Global) → Option Asked
asked [] = None
asked (name ∷ arguments) = command_asked (string_bytes name) arguments
