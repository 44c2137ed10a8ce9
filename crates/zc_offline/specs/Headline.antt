-- What a run of a document is, and what each command writes for one.
use Rattle.std.specs.Prelude.{◌≡◌, ◌<◌, ◌+◌, ◌⊎◌, ℕ, List, length, map, take, Option, Result, Ok, Err}
use Rattle.std.specs.Io.KnownBytes.{Appends, IsAtEnd}
use Rattle.zc_io.specs.Reading.{TakesFirst}
use Rattle.zp_tree.specs.Tree.{Tree}
use Rattle.zp_calls.specs.declared.call.Call.{Call}
use Rattle.zp_calls.specs.declared.reply.Reply.{Reply}
use Rattle.zc_reply.specs.Output.{output_text}
use Rattle.txg_core.specs.Rules.{Origin}
use Rattle.txg_core.specs.declared.event.Entry.{Entry}
use Rattle.txg_core.specs.History.{journal_of, synced}
use Rattle.txg_core.specs.Serial.{world}
use Rattle.txg_core.specs.Enabled.{Legal}
use Rattle.txg_core.specs.Calls.{IsHistoryOf}
use Rattle.txg_core.specs.declared.event.Event.{Event}
use Rattle.pool_object.specs.Histories.{pool_origin}
use Rattle.zc_doc.specs.declared.document.Need.{Need}
use Rattle.zc_doc.specs.declared.document.Need.TheVariants.{Any, Schedule}
use Rattle.zc_doc.specs.declared.error.DocError.{DocError}
use Rattle.zc_doc.specs.declared.error.DocError.TheVariants.{NoMemory}
use Rattle.zc_doc.specs.Document.{Contents, document_of, most_bytes}
use Rattle.zc_offline.specs.Replay.{call_in, all_given, StopsAt}
use Rattle.zc_offline.specs.LoadResults.{IsCheckOf}
use Rattle.zc_offline.specs.declared.words.Asked.{Asked}
use Rattle.zc_offline.specs.declared.words.Asked.TheVariants.{Replay, Check}
use Rattle.zc_offline.specs.declared.status.Status.{Status}
use Rattle.zc_offline.specs.declared.status.Status.TheVariants as status

-- the document that is read of an input, where this is needed of it, or its first refusal: of an input that is too long
-- one byte more than a document may have is read
unfoldable pub document_read : Need → List ℕ → Result Contents DocError
document_read need input = document_of need (take (most_bytes + 1) input)

-- where a run of the document begins: its tree and its moment, and the number of calls of each session
abbrev pub origin_of : Contents → Origin Tree Call Reply
origin_of doc = pool_origin doc.now doc.tree (map length doc.sessions)

-- these events are a legal run of the document: the history that they are, where each session makes its calls in
-- their order, is legal
pub record IsLegalRun (doc : Contents) (events : List Event) (h : List (Entry Call)) : Type 0 where
  pub history : IsHistoryOf (origin_of doc) (call_in doc.sessions) events h
  pub legal : Legal (origin_of doc) h

-- what is written for a run: its events, the replies given to each session, the synced group, the records
abbrev pub run_output : Contents → List (Entry Call) → List ℕ
run_output doc h = output_text (journal_of h) (all_given (origin_of doc) h) (synced h) (world (origin_of doc) h).records

-- the text is the output of the run that the document's schedule asks for, where the input is the document
pub record IsReplayOutput (input text : List ℕ) : Type 0 where
  pub document : Contents
  pub is : document_read Schedule input ≡ Ok document
  pub history : List (Entry Call)
  pub run : IsLegalRun document document.schedule history
  pub text_is : text ≡ run_output document history

-- the input is a document whose schedule is a legal run
abbrev pub HasReplayOutput : List ℕ → Type 0
HasReplayOutput input = (text : List ℕ) × IsReplayOutput input text

-- this is the first refusal of the input; want of memory is none
abbrev pub IsRefusedFor : Need → List ℕ → DocError → Type 0
IsRefusedFor need input NoMemory = ⊥
IsRefusedFor need input e = document_read need input ≡ Err e

-- event i of the document's schedule is the first that is not enabled after those before it
pub record IsNotEnabled (input : List ℕ) (i : ℕ) : Type 0 where
  pub document : Contents
  pub is : document_read Schedule input ≡ Ok document
  pub stops : StopsAt (origin_of document) document.sessions document.schedule i

-- the text is the output of a check of the document that the input is
pub record IsCheckOutput (input text : List ℕ) : Type 0 where
  pub document : Contents
  pub is : document_read Any input ≡ Ok document
  pub check : IsCheckOf document text

-- ---- what each command gives, a row a command

-- what is needed of a document
abbrev pub need_of : Asked → Need
need_of Replay = Schedule
need_of Check = Any

-- the text is what is written for the input
abbrev pub IsOutput : Asked → List ℕ → List ℕ → Type 0
IsOutput Replay input text = IsReplayOutput input text
IsOutput Check input text = IsCheckOutput input text

-- nothing in the input is refused: it is a document, for a replay one whose schedule is a legal run
abbrev pub IsAccepted : Asked → List ℕ → Type 0
IsAccepted Replay input = HasReplayOutput input
IsAccepted Check input = (document : Contents) × (document_read Any input ≡ Ok document)

-- the events of the schedule are done
abbrev pub DoesSchedule : Asked → Type 0
DoesSchedule Replay = Unit {0}
DoesSchedule Check = ⊥

-- event i of the schedule explains why there is no output
abbrev pub IsStopped : Asked → List ℕ → ℕ → Type 0
IsStopped Replay input i = IsNotEnabled input i
IsStopped Check input i = ⊥

-- ---- what a run does, whatever is asked

-- why there is no output
abbrev pub Explains : Asked → List ℕ → Status → Type 0
Explains a input (status.BadDocument e) = IsRefusedFor (need_of a) input e
Explains a input (status.NotEnabled i) = IsStopped a input i
Explains a input status.NoMemory = Unit {0}
Explains a input _ = ⊥

-- what the command writes for the input was written
pub record Writes (a : Asked) (before after : Option (List ℕ)) (input : List ℕ) : Type 0 where
  pub text : List ℕ
  pub output : IsOutput a input text
  pub written : Appends before after text

-- a first part of it was written
pub record WritesFront (a : Asked) (before after : Option (List ℕ)) (input : List ℕ) : Type 0 where
  pub text : List ℕ
  pub output : IsOutput a input text
  pub count : ℕ
  pub short : count < length text
  pub written : Appends before after (take count text)

-- what a run that ended so has read: all, or one byte more than a document may have
abbrev pub HasRead : Status → Option (List ℕ) → Option (List ℕ) → Type 0
HasRead status.Ok before after = IsAtEnd after
HasRead status.WriteFault before after = IsAtEnd after
HasRead (status.NotEnabled i) before after = IsAtEnd after
HasRead (status.BadDocument e) before after = IsAtEnd after ⊎ TakesFirst (most_bytes + 1) before after
HasRead _ before after = Unit {0}
