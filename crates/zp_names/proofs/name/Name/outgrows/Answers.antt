use Rattle.std.proofs.Common.{◌≡◌, ◌+◌, ◌-◌, ◌&&◌, ◌||◌, true, length, ap, ◌∙◌, sym, arith, rules, nat_lt}
use Rattle.zp_names.specs.Names.{parts_of}
use Rattle.zp_names.specs.NameMoves.{is_at_or_below, moved}
use Rattle.zp_names.proofs.MovedNames.{measured}
use Rattle.zp_names.proofs.name.Name.outgrows.Goals as goal

pub overflow_sub-bytes : goal.overflow_sub-bytes
overflow_sub-bytes c =
    let at : is_at_or_below c.args.self.now c.args.old.now ≡ true = search rules in
    let m = measured c.args.old.now c.args.new.now c.args.self.now c.requires.old c.requires.new at in
    let new = ap length c.text.ensures.text in
    let name = ap length c.text-2.ensures.text in
    let old = ap length c.text-3.ensures.text in
    omega (arith, m.size)

pub overflow_sub-parts : goal.overflow_sub-parts
overflow_sub-parts c =
    let at : is_at_or_below c.args.self.now c.args.old.now ≡ true = search rules in
    let m = measured c.args.old.now c.args.new.now c.args.self.now c.requires.old c.requires.new at in
    omega (arith, m.depth)

pub returns : goal.returns
returns c =
    let at : is_at_or_below c.args.self.now c.args.old.now ≡ true = search rules in
    let m = measured c.args.old.now c.args.new.now c.args.self.now c.requires.old c.requires.new at in
    let there = moved c.args.old.now c.args.new.now c.args.self.now in
    let new = ap length c.text.ensures.text in
    let name = ap length c.text-2.ensures.text in
    let old = ap length c.text-3.ensures.text in
    let bytes : length c.text.result.now + length c.text-2.result.now - length c.text-3.result.now ≡ length there = omega (arith, m.size) in
    let parts : c.depth.result + c.depth-2.result - c.depth-3.result ≡ length (parts_of there) = omega (arith, m.depth) in
    c.is_too_much.ensures
    ∙ ap (λ n. nat_lt 255 (n + c.args.more) || nat_lt 50 (c.depth.result + c.depth-2.result - c.depth-3.result)) bytes
    ∙ ap (λ n. nat_lt 255 (length there + c.args.more) || nat_lt 50 n) parts
    ∙ ap (λ b. b && (nat_lt 255 (length there + c.args.more) || nat_lt 50 (length (parts_of there)))) (sym at)
