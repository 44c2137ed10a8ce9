use Rattle.std.specs.Prelude.{◌≡◌, ℕ, List, [], ◌∷◌}
use Rattle.std.proofs.Common.{ap, sym, subst, ◌∙◌}
use Rattle.lua_ast.specs.declared.node.LinedNode.{LinedNode}
use Rattle.lua_ast.specs.Postfix.{Leaves}
use Rattle.lua_parser_state.specs.Order.{frames_on}
use Rattle.lua_blocks.proofs.Others.{no_frames}
use Rattle.lua_blocks.proofs.block.end_block.Goals as goal

pub returns-in-None-kind-clause-order : goal.returns-in-None-kind-clause-order
returns-in-None-kind-clause-order c = λ h.
    let frames = c.args.parser.now.frames in
    let root = c.in_ok-root.root in
    let bare : frames_on frames ≡ [] = ap frames_on (sym c.in_ok-root.ensures.frames ∙ no_frames c.block.new.self c.in-None.ensures.stack) in
    let here : Leaves c.block.new.self.nodes (root ∷ frames_on frames) = c.in_ok-root.ensures.order (frames_on frames) h in
    subst (λ (ns : List LinedNode). Leaves ns (root ∷ [])) (sym c.in-None.ensures.nodes) (subst (λ (left : List ℕ). Leaves c.block.new.self.nodes (root ∷ left)) bare here)
