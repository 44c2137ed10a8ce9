-- The channel programs of a document: zfs-program(8).
use Rattle.std.specs.Prelude.{ℕ, List, [], ◌∷◌, All, Result, Ok, Err}
use Rattle.std.specs.Str.{IsUtf8}
use Rattle.serde_json.specs.Data.{Data, Members, no_members, member}
use Rattle.zc_doc.specs.declared.error.DocError.{DocError}
use Rattle.zc_doc.specs.declared.program.Program.{Program}
use Rattle.zc_doc.specs.Refusals.{below_step}
use Rattle.zc_doc.specs.Reading.{◌>>=◌, text_at, members_at}

-- a text under the name of a script
abbrev pub program_at : List ℕ → Data → Result Program DocError
program_at name d = below_step name (text_at d) >>= λ text. Ok (record { name = name; text = text })

-- member by member
abbrev pub programs_in : Members → Result (List Program) DocError
programs_in no_members = Ok []
programs_in (member name d ms) = program_at name d >>= λ p. programs_in ms >>= λ ps. Ok (p ∷ ps)

-- an object from names of scripts to texts
abbrev pub programs_at : Data → Result (List Program) DocError
programs_at d = members_at d >>= programs_in

-- the names are texts of JSON, so UTF-8 (RFC 8259, section 8.1)
abbrev pub AreNamed : List Program → Type 0
AreNamed programs = All (λ p. IsUtf8 p.name) programs
