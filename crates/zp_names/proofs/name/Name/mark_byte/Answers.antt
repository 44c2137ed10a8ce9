use Rattle.std.proofs.Common.{ap, ◌∙◌, sym, string_bytes}
use Rattle.std.specs.Prelude.{slice_get, find}
use Rattle.std.proofs.lemmas.List.Folds.{find_at}
use Rattle.zp_names.specs.Names.{is_mark}
use Rattle.zp_names.proofs.name.Name.mark_byte.Goals as goal

pub returns : goal.returns
returns c =
    let text = string_bytes c.self.inside.text in
    let at = c.self.inside.mark in
    c.byte_at.ensures ∙ ap (λ xs. slice_get xs at) c.as_bytes.ensures.value ∙ ap (slice_get text) c.self.invariant.0
    ∙ sym (find_at is_mark text) ∙ ap (find is_mark) c.self.view_is
