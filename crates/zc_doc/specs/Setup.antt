-- The setup of a document: its commands are done one after the other in group 0, before any session calls.
-- Source: dsl_synctask.c: a task is checked, and done where its check answers 0.
use Rattle.std.specs.Prelude.{ℕ, ◌+◌, ◌==◌, if◌then◌else◌, List, [], ◌∷◌, Result, Ok, Err}
use Rattle.zp_names.specs.declared.command.Command.{Command}
use Rattle.zp_tree.specs.Tree.{Tree}
use Rattle.zp_tree.specs.Commands.{check_of, change_of}
use Rattle.zc_doc.specs.declared.error.DocError.{DocError}
use Rattle.zc_doc.specs.declared.error.DocError.TheVariants.{SetupRefused}

-- the tree after these commands, the first of which has this place, or the first whose verdict is not 0
abbrev pub set_up : ℕ → ℕ → Tree → List Command → Result Tree DocError
set_up now place t [] = Ok t
set_up now place t (c ∷ cs) =
    if (check_of t c).errno == 0 then set_up now (place + 1) (change_of t c 0 now) cs
    else Err (SetupRefused place (check_of t c).errno)
