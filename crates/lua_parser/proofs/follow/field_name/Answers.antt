use Rattle.std.specs.Prelude.{◌≡◌, true, false, Bool, List, ◌∷◌}
use Rattle.std.proofs.Common.{ap, sym, ◌∙◌}
use Rattle.lua_ast.specs.Tree as tree
use Rattle.lua_ast.specs.Decode.{fields_of}
use Rattle.lua_grammar.specs.Signs.{token}
use Rattle.lua_grammar.specs.Pushdown as pushdown
use Rattle.lua_parser_state.specs.Shown.{tree_in, stack_in, purpose_in, attributes}
use Rattle.lua_parser_state.proofs.Steps.{gave_as}
use Rattle.lua_parser.proofs.Others.{field_name_other}
use Rattle.lua_parser.proofs.follow.field_name.Goals as goal

pub returns-in_ok-had-in_default-clause-gave : goal.returns-in_ok-had-in_default-clause-gave
returns-in_ok-had-in_default-clause-gave c =
    let ns = c.args.parser.now.nodes in
    let u = purpose_in ns c.args.table.purpose in
    let fs = fields_of (tree_in ns) c.args.table.fields in
    let k = stack_in c.args.parser.now in
    let m = token c.args.kind in
    let f = pushdown.InItem u c.args.table.line fs in
    let n = tree.Name 0 c.args.own c.args.name in
    let t = tree_in c.add.new.self.nodes c.in_ok-had-in_default.had in
    let z = stack_in c.add.new.self in
    let stack : f ∷ k ≡ z = sym (c.in_ok-had-in_default.ensures.stack ∙ c.in_ok-push-in_default.ensures.stack) in
    let name : n ≡ t = sym c.in_ok-had-in_default.ensures.tree in
    let at = λ (w : Bool). field_name_other u c.args.table.line fs c.args.own c.args.name k c.args.kind (attributes w c.args.line c.args.slice.now) c.in_default.not-Assign
    ∙ ap (λ (x : List pushdown.Frame). pushdown.follow x 0 n m (attributes w c.args.line c.args.slice.now)) stack
    ∙ ap (λ (x : tree.Tree). pushdown.follow z 0 x m (attributes w c.args.line c.args.slice.now)) name in
    gave_as (pushdown.field_name u c.args.table.line fs c.args.own c.args.name k m (attributes true c.args.line c.args.slice.now)) (pushdown.follow z 0 t m (attributes true c.args.line c.args.slice.now))
    (pushdown.field_name u c.args.table.line fs c.args.own c.args.name k m (attributes false c.args.line c.args.slice.now)) (pushdown.follow z 0 t m (attributes false c.args.line c.args.slice.now)) c.follow.result c.follow.new.parser
    (at true) (at false) c.follow.ensures.gave
