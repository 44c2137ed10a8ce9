use Rattle.std.proofs.Common.{ap, ◌∙◌, sym, eqb, length, string_bytes}
use Rattle.std.specs.List.{position_or_len}
use Rattle.zp_names.specs.Names.{is_mark, is_head}
use Rattle.zp_names.proofs.Places.{is_none-find}
use Rattle.zp_names.proofs.name.Name.is_head.Goals as goal

pub returns : goal.returns
returns c =
    let text = string_bytes c.self.inside.text in
    ap (λ n. eqb n (length c.text.result.now)) c.self.invariant.0 ∙ ap (λ n. eqb (position_or_len is_mark text) n) (ap length (c.text.ensures.text ∙ sym c.self.view_is))
    ∙ sym (is_none-find is_mark text) ∙ ap is_head c.self.view_is
