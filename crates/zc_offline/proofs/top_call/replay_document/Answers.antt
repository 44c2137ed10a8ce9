use Rattle.std.proofs.Common.{◌≡◌, List, All, map, length, sym, ap, subst, ◌∙◌}
use Rattle.zp_tree.specs.Tree.{Tree}
use Rattle.zp_tree.specs.Kept.{Kept}
use Rattle.zp_calls.specs.declared.reply.Reply.{Reply}
use Rattle.zp_calls.specs.Names.{HasValidNames}
use Rattle.zp_calls.specs.Replies.{IsPrintable}
use Rattle.txg_core.proofs.Keeping.{calls-kept}
use Rattle.zc_doc.specs.Document.{contents_of}
use Rattle.zc_offline.specs.Replay.{call_in}
use Rattle.zc_offline.specs.Headline.{origin_of}
use Rattle.zc_offline.proofs.Ran.{ran-at, output-same}
use Rattle.zc_offline.proofs.Printable.{all-given, each-call}
use Rattle.zc_offline.proofs.top_call.replay_document.Goals as goal

pub render-rendered-requires-clause-printable : goal.render-rendered-requires-clause-printable
render-rendered-requires-clause-printable c =
    let doc = contents_of c.in_ok-document.document in
    let done = c.in-Ok.ensures.ok in
    let ran = ran-at c.in_ok-document.document c.in-Ok.run' c.new.result c.as_slice.result.now c.as_slice-2.result.now done.0 c.new.ensures c.as_slice.ensures c.as_slice-2.ensures done.1 done.2 in
    let o = origin_of doc in
    let named = calls-kept o (call_in doc.sessions) HasValidNames ran.history ran.is.carries (each-call HasValidNames doc.sessions c.in_ok-document.ensures.names) in
    subst (λ (rs : List (List Reply)). All (λ (xs : List Reply). All IsPrintable xs) rs) (sym (c.as_slice-3.ensures.value ∙ ran.follows.replies))
    (all-given IsPrintable o ran.history
    (λ s. c.histories_keep_trees_well_formed.ensures.replies doc.now doc.tree (map length doc.sessions) ran.history s c.in_ok-document.ensures.well named)
    0 (length o.counts))

pub returns-in-Ok-rendered : goal.returns-in-Ok-rendered
returns-in-Ok-rendered c =
    let doc = contents_of c.in_ok-document.document in
    let done = c.in-Ok.ensures.ok in
    let ran = ran-at c.in_ok-document.document c.in-Ok.run' c.new.result c.as_slice.result.now c.as_slice-2.result.now done.0 c.new.ensures c.as_slice.ensures c.as_slice-2.ensures done.1 done.2 in
    let o = origin_of doc in
    let stands = ran.follows.stands in
    let records = ap (λ (k : Kept). k.tree.records) c.tree.ensures.tree ∙ ap (λ (t : Tree). t.records) (c.object.ensures.world o ran.history stands) in
    let text = output-same _ _ _ _ _ _ _ _ (c.journal.ensures o ran.history stands) (c.as_slice-3.ensures.value ∙ ran.follows.replies) (c.synced.ensures o ran.history stands) records in
    record { document = doc; is = c.in_ok-document.ensures.document; history = ran.history; run = record { history = ran.is; legal = stands.legal }; text_is = c.in-Ok-rendered.ensures ∙ text }
