-- What a check of a document tells: of each channel program whether it loads, and the records of the tree.
use Rattle.std.specs.Prelude.{◌≡◌, ℕ, ◌++◌, List, [], ◌∷◌, All, codes, fold, length, map, Option, Some, None}
use Rattle.serde_json.specs.Data.{Data, null, string, object, Members, member, no_members, put}
use Rattle.serde_json.specs.Written.{compact_text}
use Rattle.lua_scope.specs.Loads.{Loads, LoadFails}
use Rattle.lua_scope.specs.declared.load_error.LoadError.{LoadError}
use Rattle.zc_reply.specs.Journal.{whole}
use Rattle.zc_doc.specs.Document.{Contents}
use Rattle.zc_doc.specs.declared.program.Program.{Program}
use Rattle.zc_offline.specs.LoadErrors.{load_error_text}

-- what loading a text gives: no refusal where it loads, else why it does not
abbrev pub IsLoadResult : List ℕ → Option LoadError → Type 0
IsLoadResult text None = Loads text
IsLoadResult text (Some e) = LoadFails text e

-- null where the text loads, else the text of its refusal
abbrev pub load_result_data : Option LoadError → Data
load_result_data None = null
load_result_data (Some e) = string (load_error_text e)

-- a program, with its refusal if it does not load
pub record LoadResult : Type 0 where
  pub program : Program
  pub refusal : Option LoadError

abbrev pub IsRight : LoadResult → Type 0
IsRight r = IsLoadResult r.program.text r.refusal

-- the members, with the load result of one more program at its name
abbrev pub put_load_result : Members → LoadResult → Members
put_load_result members r = put r.program.name (load_result_data r.refusal) members

-- this is, by name, the load result of each program, and each is right
pub record AreLoadResults (programs : List Program) (d : Data) : Type 0 where
  pub results : List LoadResult
  pub each : map (λ r. r.program) results ≡ programs
  pub right : All IsRight results
  pub is : d ≡ object (fold put_load_result no_members results)

-- {"programs": .., "records": ..}
abbrev pub check_data : Data → ℕ → Data
check_data programs records = object (member (codes "programs") programs (member (codes "records") (whole records) no_members))

-- one compact JSON text (RFC 8259) and a newline
abbrev pub check_text : Data → ℕ → List ℕ
check_text programs records = compact_text (check_data programs records) ++ 10 ∷ []

-- the text is what is written for the programs and the tree of the document
pub record IsCheckOf (document : Contents) (text : List ℕ) : Type 0 where
  pub programs : Data
  pub load_results : AreLoadResults document.programs programs
  pub text_is : text ≡ check_text programs (length document.tree.records)
