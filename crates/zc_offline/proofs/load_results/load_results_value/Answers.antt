use Rattle.std.proofs.Common.{◌≡◌, ℕ, ◌+◌, List, [], ◌∷◌, ◌++◌, take, sym, ap, ◌∙◌, subst}
use Rattle.std.specs.Str.{IsUtf8}
use Rattle.std.proofs.lemmas.List.{take_all, take_more}
use Rattle.std.proofs.lemmas.List.Elements.{All-get_or}
use Rattle.serde_json.specs.Data.{Data, object, Members, put}
use Rattle.serde_json.specs.View.{view, members_view}
use Rattle.serde_json.proofs.Views.{view-Object}
use Rattle.zc_doc.specs.declared.program.Program.{Program}
use Rattle.zc_offline.specs.LoadResults.{AreLoadResults, load_result_data}
use Rattle.zc_offline.proofs.LoadResults.{one-found}
use Rattle.zc_offline.proofs.load_results.load_results_value.Goals as goal

pub text_of-requires : goal.text_of-requires
text_of-requires c =
    let item = c.program-item.result in
    let here : IsUtf8 item.name = subst (λ (p : Program). IsUtf8 p.name) (sym c.program-item.is) (All-get_or (λ p. IsUtf8 p.name) c.args.programs.now c.loop-program.program-index item c.loop-program-test.true c.requires) in
    subst (λ (bs : List ℕ). IsUtf8 bs) (sym c.as_slice.ensures) here

pub loop-program-preserved : goal.loop-program-preserved
loop-program-preserved c =
    let l = c.loop-program in
    let programs = c.args.programs.now in
    let item = c.program-item.result in
    let v = c.in_ok-refusal.refusal in
    let before = members_view l.members.entries in
    let key : c.text_of.result.now ≡ item.name = c.text_of.ensures ∙ c.as_slice.ensures in
    let told : view c.in_ok-value.value ≡ load_result_data v = c.in_ok-value.ensures in
    let put-is : members_view c.put.new.map.entries ≡ put item.name (load_result_data v) before =
    c.in_ok-put.ensures.ok ∙ ap (λ (k : List ℕ). put k (view c.in_ok-value.value) before) key ∙ ap (λ (d : Data). put item.name d before) told in
    let more : take (l.program-index + 1) programs ≡ take l.program-index programs ++ item ∷ [] =
    take_more programs l.program-index item c.loop-program-test.true ∙ ap (λ (p : Program). take l.program-index programs ++ p ∷ []) (sym c.program-item.is) in
    subst (λ (ps : List Program). AreLoadResults ps (object (members_view c.put.new.map.entries))) (sym more)
    (subst (λ (ms : Members). AreLoadResults (take l.program-index programs ++ item ∷ []) (object ms)) (sym put-is)
    (one-found (take l.program-index programs) before item v l.invariant c.in_ok-refusal.ensures))

pub returns : goal.returns
returns c =
    let l = c.loop-program in
    subst (λ (d : Data). AreLoadResults c.args.programs.now d) (sym (view-Object l.members))
    (subst (λ (ps : List Program). AreLoadResults ps (object (members_view l.members.entries))) (take_all l.program-index c.args.programs.now c.loop-program-test.false) l.invariant)
