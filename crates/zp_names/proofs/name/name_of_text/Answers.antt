use Rattle.std.proofs.Common.{ap, ◌∙◌, length, string_bytes}
use Rattle.std.proofs.lemmas.Bool.{and_parts}
use Rattle.zp_names.specs.Names.{is_head, is_valid_name}
use Rattle.zp_names.proofs.Places.{place_in_head}
use Rattle.zp_names.proofs.name.name_of_text.Goals as goal

pub invariant_of-result : goal.invariant_of-result
invariant_of-result c =
    let text = string_bytes c.args.text in
    let both = and_parts (is_valid_name text) (is_head text) c.requires in
    (ap length c.as_str.ensures.value ∙ place_in_head text both.1, both.0)
