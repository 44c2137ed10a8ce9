use Rattle.std.proofs.Common.{rules, ◌≡◌, pos, neg_ℤ, ◌-ℤ◌, ◌*ℤ◌, false}
use Rattle.std.specs.Prelude.{int_lt}
use Rattle.std.specs.Int.{int_div_euclid}
use Rattle.lua_meaning.specs.Numbers.{floor_div}
use Rattle.lua_ops.proofs.Wrapping.{turned}
use Rattle.lua_ops.proofs.arithmetic.remainder.Goals as goal

pub returns-else-y-gt0 : goal.returns-else-y-gt0
returns-else-y-gt0 c =
    let below : int_lt (pos 0) c.args.y ≡ false = search rules in
    let ex : c.negated.result ≡ neg_ℤ c.args.x = search rules in
    let ey : c.negated-else-y-gt0.result ≡ neg_ℤ c.args.y = search rules in
    let er : c.remainder_by-else-y-gt0.result ≡ c.negated.result -ℤ (c.negated-else-y-gt0.result *ℤ int_div_euclid c.negated.result c.negated-else-y-gt0.result) = search rules in
    let ew : c.turned.result ≡ neg_ℤ c.remainder_by-else-y-gt0.result = search rules in
    let whole : c.turned.result ≡ c.args.x -ℤ (c.args.y *ℤ floor_div c.args.x c.args.y) = turned c.args.x c.args.y c.negated.result c.negated-else-y-gt0.result c.remainder_by-else-y-gt0.result c.turned.result below ex ey er ew in
    search rules
