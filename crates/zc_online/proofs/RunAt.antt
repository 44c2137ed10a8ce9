-- A run on the pool of a document, and runs of documents that differ in their schedules.
use Rattle.std.proofs.Common.{◌≡◌, ℕ, List, Ok, subst, sym, ap, refl, ◌∙◌}
use Rattle.zp_calls.specs.declared.call.Call.{Call}
use Rattle.zp_calls.specs.declared.reply.Reply.{Reply}
use Rattle.zp_tree.specs.Kept.{Kept}
use Rattle.txg_core.specs.declared.event.Event.{Event}
use Rattle.txg_core.specs.declared.event.Entry.{Entry}
use Rattle.txg_core.specs.History.{journal_of}
use Rattle.pool_object.specs.Pool.{PoolState, pool_means}
use Rattle.zc_doc.specs.declared.document.Document.{Document}
use Rattle.zc_doc.specs.declared.document.Need.TheVariants.{Any, Schedule}
use Rattle.zc_doc.specs.Document.{Contents}
use Rattle.zc_doc.specs.declared.error.DocError.{DocError}
use Rattle.zc_offline.specs.declared.words.Asked.TheVariants.{Check}
use Rattle.zc_offline.proofs.Answer.{no-output}
use Rattle.zc_offline.specs.Headline.{document_read, IsRefusedFor, IsLegalRun, IsReplayOutput, run_output}
use Rattle.zc_offline.proofs.Ran.{tree_of, pool_of}
use Rattle.sessions.specs.declared.run.Run.{Run}
use Rattle.sessions.specs.Runs.{IsRun}
use Rattle.zc_online.specs.RunOutput.{IsRunOutput}

pub run-at : (d : Document) (run : Run (PoolState Kept) Call Reply) (pool : PoolState Kept) (sessions : List (List Call)) → pool ≡ pool_of d → sessions ≡ d.sessions → IsRun (pool_means tree_of) pool sessions run → IsRun (pool_means tree_of) (pool_of d) d.sessions run
run-at d run pool sessions p s is = subst (λ (ss : List (List Call)). IsRun (pool_means tree_of) (pool_of d) ss run) s (subst (λ (q : PoolState Kept). IsRun (pool_means tree_of) q sessions run) p is)

legal-with : (one : Contents) (schedule events : List Event) (h : List (Entry Call)) → IsLegalRun one events h → IsLegalRun (record one { schedule = schedule }) events h
legal-with one schedule events h l = record { history = l.history; legal = l.legal }

pub legal-other : (one other : Contents) (events : List Event) (h : List (Entry Call)) → other ≡ record one { schedule = other.schedule } → IsLegalRun one events h → IsLegalRun other events h
legal-other one other events h same l = subst (λ (d : Contents). IsLegalRun d events h) (sym same) (legal-with one other.schedule events h l)

pub output-other : (one other : Contents) (h : List (Entry Call)) → other ≡ record one { schedule = other.schedule } → run_output other h ≡ run_output one h
output-other one other h same = ap (λ (d : Contents). run_output d h) same

pub replays : (input text again : List ℕ) (run : IsRunOutput input text) → document_read Schedule again ≡ Ok (record run.document { schedule = journal_of run.history }) → IsReplayOutput again text
replays input text again run is = record {
  document = record run.document { schedule = journal_of run.history };
  is = is;
  history = run.history;
  run = legal-with run.document (journal_of run.history) (journal_of run.history) run.history run.run;
  text_is = run.text_is;
}

-- an input that is refused has no run
pub run-refused : (input bytes text : List ℕ) (e : DocError) → bytes ≡ input → IsRefusedFor Any input e → IsRunOutput bytes text → ⊥
run-refused input bytes text e same r out = no-output Check input e r (subst (λ (x : List ℕ). (document : Contents) × (document_read Any x ≡ Ok document)) same (out.document, out.is))
