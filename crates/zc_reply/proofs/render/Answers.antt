use Rattle.std.proofs.Common.{◌≡◌, ◌++◌, ◌∷◌, [], List, ℕ, ap, ◌∙◌}
use Rattle.serde_json.specs.View.{view}
use Rattle.serde_json.specs.Written.{has_float, compact_text}
use Rattle.zc_reply.specs.Output.{output_data}
use Rattle.zc_reply.proofs.NoFloat.{output_float}
use Rattle.zc_reply.proofs.render.Goals as goal

pub returns : goal.returns
returns g c =
    let records = (g.T.Datasets.tree c.args.tree.now).records in
    let is : view c.in_ok-output.output ≡ output_data c.args.journal.now c.args.replies.now c.args.synced records = c.in_ok-output.ensures in
    ap (λ v. v.items) c.into_bytes.ensures.value
    ∙ c.in_ok-push_str.ensures.bytes
    ∙ ap (λ (text : List ℕ). text ++ 10 ∷ []) (c.in_ok-text.ensures.text (ap has_float is ∙ output_float c.args.journal.now c.args.replies.now c.args.synced records) ∙ ap compact_text is)
