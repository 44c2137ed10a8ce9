use Rattle.std.proofs.Common.{subst, sym}
use Rattle.std.specs.Str.{IsAscii}
use Rattle.zp_names.proofs.Law.{valid_ascii}
use Rattle.zp_names.proofs.name.Name.text.Goals as goal

pub returns-clause-ascii : goal.returns-clause-ascii
returns-clause-ascii c = subst IsAscii (sym c.as_str.ensures.value) (valid_ascii _ c.self.invariant.1)
