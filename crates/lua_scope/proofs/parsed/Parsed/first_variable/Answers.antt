use Rattle.std.proofs.Common.{◌≡◌, ap, subst, rules, arith}
use Rattle.std.proofs.lemmas.Grind.{common_steps}
use Rattle.lua_ast.specs.Once.{IsEachOnce}
use Rattle.lua_scope.specs.Loads.{Program}
use Rattle.lua_scope.specs.OfChunk.{occurrences_of}
use Rattle.lua_scope.specs.Scope.{first_variable}
use Rattle.lua_scope.proofs.MetOnce.{number_found}
use Rattle.lua_scope.proofs.parsed.Parsed.first_variable.Goals as goal

pub returns-clause-there : goal.returns-clause-there
returns-clause-there c =
    let once = subst IsEachOnce (ap (λ (p : Program). p.chunk) c.self.view_is) c.self.invariant.1 in
    let is : c.index-2.result.now ≡ first_variable (occurrences_of c.args.self.now.chunk) c.args.id = first_of (search rules, grind (arith, common_steps)) in
    λ count before met. number_found c.index-2.result.now c.args.self.now.chunk c.args.id once is count before met
