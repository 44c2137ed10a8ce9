use Rattle.std.proofs.Common.{◌≡◌, ◌+◌, ap, ◌∙◌, sym, rules}
use Rattle.std.specs.Prelude.{count_by}
use Rattle.std.proofs.lemmas.List.Splits.{length-slice_split}
use Rattle.zp_names.specs.Names.{is_slash, head_of}
use Rattle.zp_names.proofs.scan.count_of_parts.Goals as goal

pub returns : goal.returns
returns c =
    let count : c.count.result ≡ count_by is_slash (head_of c.args.text.now) = search rules in
    ap (λ n. n + 1) count ∙ sym (length-slice_split is_slash (head_of c.args.text.now))
