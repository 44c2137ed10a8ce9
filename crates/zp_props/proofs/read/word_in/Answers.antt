use Rattle.std.proofs.Common.{true, false, sym, ◌∙◌, ap, Some}
use Rattle.zp_props.specs.declared.setting.PropValue.TheVariants.{Text}
use Rattle.zp_props.proofs.Texts.{word_value}
use Rattle.zp_props.proofs.read.word_in.Goals as goal

pub returns-then-not-is_among : goal.returns-then-not-is_among
returns-then-not-is_among c = word_value c.args.words.now c.args.text.now false (sym c.if-not-is_among.ensures)

pub returns : goal.returns
returns c = ap (λ t. Some (Text t)) c.in_ok-from_bytes.ensures ∙ word_value c.args.words.now c.args.text.now true (sym c.if-not-is_among.ensures)
