-- Room for levels.
use Rattle.std.specs.Prelude.{◌≡◌, ℕ, ◌<◌, ◌≤◌, ◌+◌, true, false, nat_le, cond, List, Some, None}
use Rattle.std.proofs.Common.{ap, sym, arith, ◌∙◌}
use Rattle.std.proofs.lemmas.Bool.Decides.{nat_tests}
use Rattle.lua_ast.specs.declared.node.LinedNode.{LinedNode}
use Rattle.lua_grammar.specs.Pushdown as pushdown
use Rattle.lua_parser_state.specs.declared.frame.Frame.{Frame}
use Rattle.lua_parser_state.specs.declared.frame.Frame.TheVariants as frame
use Rattle.lua_parser_state.specs.Depth.{lift_of}
use Rattle.lua_parser_state.specs.Shown.{frame_in}
use Rattle.lua_parser_state.specs.Gave.{within}
use Rattle.lua_parser_state.proofs.Nodes.{lift_frame}

le-true : (d : ℕ) → d ≤ 200 → nat_le d 200 ≡ true
le-true d h = grind (arith, nat_tests)

le-false : (d : ℕ) → 200 < d → nat_le d 200 ≡ false
le-false d h = grind (arith, nat_tests)

pub within_room : (d : ℕ) (s : pushdown.State) → d ≤ 200 → within d s ≡ Some s
within_room d s h = ap (λ b. cond b (Some s) None) (le-true d h)

pub within_deep : (d : ℕ) (s : pushdown.State) → 200 < d → within d s ≡ None
within_deep d s h = ap (λ b. cond b (Some s) None) (le-false d h)

levels : (f : Frame) (d : ℕ) → lift_of f d ≡ lift_of f 0 + d
levels (frame.InParen q l) d = omega arith
levels (frame.InUnary q l op) d = omega arith
levels (frame.InBinary q op t) d = omega arith
levels (frame.InIndex q o) d = omega arith
levels (frame.InArgs q c es) d = omega arith
levels (frame.InItem u) d = omega arith
levels (frame.InNamed u name) d = omega arith
levels (frame.InKey u) d = omega arith
levels (frame.InKeyed u e) d = omega arith
levels (frame.InStatement s) d = omega arith
levels (frame.InHeader g) d = omega arith
levels (frame.InBlock g) d = omega arith

pub lift_levels : (ns : List LinedNode) (f : Frame) (d : ℕ) → pushdown.lift (frame_in ns f) d ≡ lift_of f 0 + d
lift_levels ns f d = sym (lift_frame ns f d) ∙ levels f d
