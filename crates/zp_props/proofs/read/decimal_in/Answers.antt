use Rattle.std.proofs.Common.{◌≡◌, sym, ap, ◌∙◌, true}
use Rattle.std.specs.Char.{is_ascii_digit}
use Rattle.std.specs.List.{list_all}
use Rattle.zp_props.specs.ReadSetting.{decimal_in}
use Rattle.zp_props.proofs.Texts.{digits_utf8, too_large}
use Rattle.zp_props.proofs.read.decimal_in.Goals as goal

pub returns-in_default : goal.returns-in_default
returns-in_default c = λ n e. absurd (c.in_default.ensures.cases.0 (digits_utf8 c.args.text.now (sym c.if-not-has_only_digits.ensures)))

pub returns-in-Err : goal.returns-in-Err
returns-in-Err c = λ n e.
    let is = c.in-Ok.ensures.cases.0 in
    let digits : list_all is_ascii_digit c.in-Ok.digits.now ≡ true = ap (list_all is_ascii_digit) is ∙ sym c.if-not-has_only_digits.ensures in
    too_large c.in-Ok.digits.now c.in-Err.field-0 n digits c.in-Err.ensures.value.0 (ap decimal_in is ∙ e)
