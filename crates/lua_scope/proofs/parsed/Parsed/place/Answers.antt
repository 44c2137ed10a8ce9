use Rattle.std.proofs.Common.{◌≡◌, ap, subst, rules, arith}
use Rattle.std.proofs.lemmas.Grind.{common_steps}
use Rattle.lua_ast.specs.Once.{IsEachOnce}
use Rattle.lua_scope.specs.declared.place.Place.TheVariants.{Local, Captured, Global}
use Rattle.lua_scope.specs.Loads.{Program}
use Rattle.lua_scope.specs.OfChunk.{occurrences_of}
use Rattle.lua_scope.specs.Variables.{place_of_name}
use Rattle.lua_scope.proofs.MetOnce.{place_found}
use Rattle.lua_scope.proofs.parsed.Parsed.place.Goals as goal

pub returns-in-None-clause-there : goal.returns-in-None-clause-there
returns-in-None-clause-there c =
    let once = subst IsEachOnce (ap (λ (p : Program). p.chunk) c.self.view_is) c.self.invariant.1 in
    let is : Global ≡ place_of_name (occurrences_of c.args.self.now.chunk) c.args.id = first_of (search rules, grind (arith, common_steps)) in
    λ name before met. place_found (Global) c.args.self.now.chunk c.args.id once is name before met

pub returns-then-is_captured-clause-there : goal.returns-then-is_captured-clause-there
returns-then-is_captured-clause-there c =
    let once = subst IsEachOnce (ap (λ (p : Program). p.chunk) c.self.view_is) c.self.invariant.1 in
    let is : Captured c.in-Some.variable ≡ place_of_name (occurrences_of c.args.self.now.chunk) c.args.id = first_of (search rules, grind (arith, common_steps)) in
    λ name before met. place_found (Captured c.in-Some.variable) c.args.self.now.chunk c.args.id once is name before met

pub returns-else-is_captured-clause-there : goal.returns-else-is_captured-clause-there
returns-else-is_captured-clause-there c =
    let once = subst IsEachOnce (ap (λ (p : Program). p.chunk) c.self.view_is) c.self.invariant.1 in
    let is : Local c.in-Some.variable ≡ place_of_name (occurrences_of c.args.self.now.chunk) c.args.id = first_of (search rules, grind (arith, common_steps)) in
    λ name before met. place_found (Local c.in-Some.variable) c.args.self.now.chunk c.args.id once is name before met
