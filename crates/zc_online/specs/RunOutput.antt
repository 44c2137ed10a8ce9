-- What a run on threads writes for a document.
use Rattle.std.specs.Prelude.{◌≡◌, ◌<◌, ℕ, Bool, false, List, [], ◌∷◌, length, map, take, slice_index, bytes_eq, codes, Option, Ok, String, string_bytes}
use Rattle.std.specs.declared.alloc.Global.{Global}
use Rattle.std.specs.Io.KnownBytes.{Appends}
use Rattle.zp_calls.specs.declared.call.Call.{Call}
use Rattle.txg_core.specs.declared.event.Entry.{Entry}
use Rattle.txg_core.specs.History.{journal_of}
use Rattle.txg_core.specs.Serial.{next}
use Rattle.zc_doc.specs.declared.document.Need.TheVariants.{Any}
use Rattle.zc_doc.specs.Document.{Contents}
use Rattle.zc_offline.specs.Headline.{document_read, origin_of, IsLegalRun, run_output}

-- the text is the output of a run of the document that the input is: a legal one, in which each session has ended all its calls
pub record IsRunOutput (input text : List ℕ) : Type 0 where
  pub document : Contents
  pub is : document_read Any input ≡ Ok document
  pub history : List (Entry Call)
  pub run : IsLegalRun document (journal_of history) history
  pub whole : (s : ℕ) → next (origin_of document) history s ≡ slice_index (map length document.sessions) s
  pub text_is : text ≡ run_output document history

-- the words are `run` alone
abbrev pub asks_run : List (String Global) → Bool
asks_run [] = false
asks_run (name ∷ []) = bytes_eq (string_bytes name) (codes "run")
asks_run (name ∷ w ∷ ws) = false

-- the output of a run was written
pub record WritesRun (before after : Option (List ℕ)) (input : List ℕ) : Type 0 where
  pub text : List ℕ
  pub output : IsRunOutput input text
  pub written : Appends before after text

-- a first part of it was written
pub record WritesRunFront (before after : Option (List ℕ)) (input : List ℕ) : Type 0 where
  pub text : List ℕ
  pub output : IsRunOutput input text
  pub count : ℕ
  pub short : count < length text
  pub written : Appends before after (take count text)
