use Rattle.std.proofs.Common.{◌≡◌, take}
use Rattle.zp_names.proofs.sequence.Sequence+Bytes.copy_texts.Given as goal

abbrev pub invariant-loop-text : goal.invariant-loop-text
invariant-loop-text l = l.copies.items ≡ take l.text-index l.text-items
