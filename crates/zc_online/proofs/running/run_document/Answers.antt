use Rattle.std.proofs.Common.{◌≡◌, List, All, map, length, sym, ap, subst, refl, ◌∙◌}
use Rattle.zp_tree.specs.Tree.{Tree}
use Rattle.zp_tree.specs.Kept.{Kept}
use Rattle.zp_calls.specs.declared.reply.Reply.{Reply}
use Rattle.zp_calls.specs.Names.{HasValidNames}
use Rattle.zp_calls.specs.Replies.{IsPrintable}
use Rattle.txg_core.proofs.Keeping.{calls-kept}
use Rattle.zc_doc.specs.Document.{contents_of}
use Rattle.zc_offline.specs.Replay.{call_in}
use Rattle.zc_offline.specs.Headline.{origin_of}
use Rattle.zc_offline.proofs.Ran.{output-same}
use Rattle.zc_offline.proofs.Printable.{all-given, each-call}
use Rattle.zc_online.proofs.RunAt.{run-at}
use Rattle.zc_online.proofs.running.run_document.Goals as goal

pub render-rendered-requires-clause-printable : goal.render-rendered-requires-clause-printable
render-rendered-requires-clause-printable g c =
    let d = c.in_ok-document.document in
    let doc = contents_of d in
    let r = run-at d c.in-Ok.run' c.new-pool.result c.into_vec-sessions.result.items c.new-pool.ensures c.into_vec-sessions.ensures c.in-Ok.ensures in
    let o = origin_of doc in
    let named = calls-kept o (call_in doc.sessions) HasValidNames r.history r.is.carries (each-call HasValidNames doc.sessions c.in_ok-document.ensures.names) in
    subst (λ (rs : List (List Reply)). All (λ (xs : List Reply). All IsPrintable xs) rs) (sym (c.as_slice-2.ensures.value ∙ r.replies_are))
    (all-given IsPrintable o r.history
    (λ s. c.histories_keep_trees_well_formed.ensures.replies doc.now doc.tree (map length doc.sessions) r.history s c.in_ok-document.ensures.well named)
    0 (length o.counts))

pub returns-in-Ok-rendered : goal.returns-in-Ok-rendered
returns-in-Ok-rendered g c =
    let d = c.in_ok-document.document in
    let doc = contents_of d in
    let r = run-at d c.in-Ok.run' c.new-pool.result c.into_vec-sessions.result.items c.new-pool.ensures c.into_vec-sessions.ensures c.in-Ok.ensures in
    let records = ap (λ (k : Kept). k.tree.records) c.tree.ensures.tree ∙ ap (λ (t : Tree). t.records) r.world_is in
    let text = output-same _ _ _ _ _ _ _ _ (c.as_slice.ensures.value ∙ sym r.is.journal) (c.as_slice-2.ensures.value ∙ r.replies_are) r.group records in
    record { document = doc; is = c.in_ok-document.ensures.document; history = r.history; run = record { history = record { journal = refl; carries = r.is.carries }; legal = r.legal }; whole = r.whole; text_is = c.in-Ok-rendered.ensures ∙ text }
