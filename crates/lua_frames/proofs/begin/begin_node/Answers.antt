use Rattle.std.proofs.Common.{rules, ◌≡◌, ◌∷◌, [], ◌∙◌, ap, refl, slice_get}
use Rattle.lua_ast.specs.declared.node.Node.TheVariants as ast
use Rattle.lua_meaning.specs.Values.{of_literal, or_nil}
use Rattle.lua_code.specs.CodeOf.{code_of}
use Rattle.lua_frames.specs.NodeConstants.{constant_in, constants_of}
use Rattle.lua_frames.proofs.NodeConstants.{constant_there}
use Rattle.lua_frames.proofs.begin.begin_node.Goals as goal

pub returns-in_ok-value-in-Const : goal.returns-in_ok-value-in-Const
returns-in_ok-value-in-Const g c =
    let nodes = c.args.parsed.now.chunk.nodes in
    let there = constant_there nodes c.args.node (record { line = c.requires.there.line; node = c.args.what.now }) c.requires.there.there in
    let at : slice_get c.args.constants.now c.args.node ≡ slice_get (constants_of nodes) c.args.node = ap (λ vs. slice_get vs c.args.node) c.requires.constants in
    let told : c.in_ok-value-in-Const.field-0 ≡ or_nil (slice_get c.args.constants.now c.args.node) = search rules in
    let is : c.args.what.now ≡ ast.Const c.in-Const.value = search rules in
    let value : c.in_ok-value-in-Const.field-0 ≡ of_literal c.in-Const.value = told ∙ ap (λ o. or_nil o) (at ∙ there) ∙ ap (λ n. constant_in n) is in
    let given : c.of_one.result ≡ of_literal c.in-Const.value ∷ [] = c.of_one.ensures ∙ ap (λ v. v ∷ []) value in
    rw is (rw given refl)

pub returns-in-Block : goal.returns-in-Block
returns-in-Block g c =
    let is : c.args.what.now ≡ ast.Block c.in-Block.stats = search rules in
    rw is (c.begin_block.ensures c.args.parsed.now.chunk.nodes (code_of c.args.parsed.now.chunk) c.in-Block.stats)

pub returns-in-While : goal.returns-in-While
returns-in-While g c =
    let is : c.args.what.now ≡ ast.While c.in-While.test c.in-While.block = search rules in
    rw is (c.begin_while.ensures c.args.parsed.now.chunk.nodes (code_of c.args.parsed.now.chunk) c.in-While.test c.in-While.block)
