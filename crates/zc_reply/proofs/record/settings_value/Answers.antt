use Rattle.std.proofs.Common.{List, ℕ, sym, ap, ◌∙◌, subst, fold}
use Rattle.std.specs.Str.{IsUtf8}
use Rattle.std.proofs.lemmas.List.{take_all}
use Rattle.std.proofs.lemmas.List.Elements.{All-get_or}
use Rattle.serde_json.specs.Data.{object, no_members}
use Rattle.serde_json.proofs.Views.{view-Object}
use Rattle.zp_props.specs.declared.setting.Setting.{Setting}
use Rattle.zc_reply.specs.Records.{put_setting}
use Rattle.zc_reply.proofs.record.settings_value.Goals as goal

pub text_of-requires : goal.text_of-requires
text_of-requires c =
    let item = c.setting-item.result in
    let here : IsUtf8 item.name = subst (λ (s : Setting). IsUtf8 s.name) (sym c.setting-item.is) (All-get_or (λ s. IsUtf8 s.name) c.args.settings.now c.loop-setting.setting-index item c.loop-setting-test.true c.requires.names) in
    subst (λ (bs : List ℕ). IsUtf8 bs) (sym c.as_slice.ensures) here

pub returns : goal.returns
returns c = view-Object c.loop-setting.members ∙ ap object (c.loop-setting.invariant ∙ ap (fold put_setting no_members) (take_all c.loop-setting.setting-index c.args.settings.now c.loop-setting-test.false))
