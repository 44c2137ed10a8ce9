-- A replay on the pool of a document, as a run of the document.
use Rattle.std.proofs.Common.{◌≡◌, ℕ, List, length, map, ap, subst, ◌∙◌}
use Rattle.zp_tree.specs.Tree.{Tree}
use Rattle.zp_tree.specs.Kept.{Kept}
use Rattle.zp_tree.specs.declared.item.Item.{Item}
use Rattle.zp_calls.specs.declared.call.Call.{Call}
use Rattle.zp_calls.specs.declared.reply.Reply.{Reply}
use Rattle.zc_reply.specs.Output.{output_text}
use Rattle.txg_core.specs.Rules.{Origin, origin_of as opening_of}
use Rattle.txg_core.specs.Calls.{IsHistoryOf}
use Rattle.txg_core.specs.declared.event.Event.{Event}
use Rattle.txg_core.specs.declared.event.Entry.{Entry}
use Rattle.pool_object.specs.Pool.{PoolState, pool_means}
use Rattle.zc_doc.specs.declared.document.Document.{Document}
use Rattle.zc_doc.specs.Document.{contents_of}
use Rattle.zc_offline.specs.declared.replay.Run.{Run}
use Rattle.zc_offline.specs.Replay.{Follows, call_in}
use Rattle.zc_offline.specs.Headline.{origin_of}

abbrev pub tree_of : Kept → Tree
tree_of k = k.tree

-- the pool that a document begins with
abbrev pub pool_of : Document → PoolState Kept
pool_of d = record { tree = d.tree; moment = d.now }

-- these events were done
pub record Ran (o : Origin Tree Call Reply) (sessions : List (List Call)) (schedule : List Event) (run : Run (PoolState Kept) Call Reply) : Type 0 where
  pub history : List (Entry Call)
  pub is : IsHistoryOf o (call_in sessions) schedule history
  pub follows : Follows (pool_means tree_of) o sessions run history

-- where a replay on this pool begins
abbrev pub at_begin : PoolState Kept → List (List Call) → Origin Tree Call Reply
at_begin pool sessions = opening_of (pool_means tree_of pool) (map length sessions)

-- they are the schedule of the document where the pool and the sessions are its own
pub ran-at : (d : Document) (run : Run (PoolState Kept) Call Reply) (pool : PoolState Kept) (sessions : List (List Call)) (schedule : List Event) (h : List (Entry Call)) → pool ≡ pool_of d → sessions ≡ d.sessions → schedule ≡ d.schedule →
    IsHistoryOf (at_begin pool sessions) (call_in sessions) schedule h → Follows (pool_means tree_of) (at_begin pool sessions) sessions run h → Ran (origin_of (contents_of d)) d.sessions d.schedule run
ran-at d run pool sessions schedule h p s e is follows =
    subst (λ (es : List Event). Ran (origin_of (contents_of d)) d.sessions es run) e
    (subst (λ (ss : List (List Call)). Ran (at_begin (pool_of d) ss) ss schedule run) s
    (subst (λ (q : PoolState Kept). Ran (at_begin q sessions) sessions schedule run) p
    (record { history = h; is = is; follows = follows })))

-- the parts of the output
pub output-same : (j k : List Event) (r q : List (List Reply)) (s n : ℕ) (t u : List Item) → j ≡ k → r ≡ q → s ≡ n → t ≡ u → output_text j r s t ≡ output_text k q n u
output-same j k r q s n t u ej er es et = ap (λ (x : List Event). output_text x r s t) ej ∙ ap (λ (x : List (List Reply)). output_text k x s t) er ∙ ap (λ (x : ℕ). output_text k q x t) es ∙ ap (λ (x : List Item). output_text k q n x) et
