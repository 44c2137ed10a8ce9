use Rattle.std.proofs.Common.{ℕ, List, ◌<◌, ◌++◌, [], ◌∷◌, length, take, ap, ◌∙◌, sym, subst, arith}
use Rattle.std.proofs.lemmas.List.{take_more, take_all}
use Rattle.lua_ast.specs.Tree.{Trees}
use Rattle.lua_ast.specs.Decode.{tree, own_number, list_of, AllBelow}
use Rattle.lua_ast.proofs.Growing.{list_of_push}
use Rattle.lua_scope.specs.Scanned.{Scanned, stats_in}
use Rattle.lua_scope.proofs.Scanning.{scanned_none}
use Rattle.lua_scope.proofs.Blocks.{stats_some, stats_none, stats_below, below_at}
use Rattle.lua_scope.proofs.block.read_statements.Goals as goal

pub returns-in_default : goal.returns-in_default
returns-in_default c =
    let none_there = ap stats_in (c.node-node.ensures.tree own_number c.line-line.result c.line-line.ensures.line)
    ∙ stats_none (tree own_number c.args.chunk.now.nodes) c.args.id c.line-line.result c.node-node.result.now c.in_default.ensures
    in subst (λ (ts : Trees). Scanned (tree own_number c.args.chunk.now.nodes) (length c.args.chunk.now.nodes) ts c.new-all.result) (sym none_there)
    (scanned_none (tree own_number c.args.chunk.now.nodes) (length c.args.chunk.now.nodes) c.new-all.result c.new-all.ensures.labels c.new-all.ensures.inside c.new-all.ensures.locals c.new-all.ensures.tasks)

pub loop-stat-init : goal.loop-stat-init
unfolding list_of
loop-stat-init c = scanned_none (tree own_number c.args.chunk.now.nodes) (length c.args.chunk.now.nodes) c.new-all.result c.new-all.ensures.labels c.new-all.ensures.inside c.new-all.ensures.locals c.new-all.ensures.tasks

pub push-requires : goal.push-requires
push-requires c =
    let within = stats_below c.args.id c.node-node.result.now c.in-Some.stats.now c.in-Some.ensures c.node-node.ensures.parts
    in let these : AllBelow c.args.id c.as_slice-stat-items.result.now = subst (λ (is : List ℕ). AllBelow c.args.id is) (sym c.as_slice-stat-items.ensures) within
    in let less : c.stat-item.result < c.args.id = below_at c.args.id c.as_slice-stat-items.result.now c.loop-stat.stat-index c.stat-item.result these c.loop-stat-test.true c.stat-item.is
    in omega (arith, c.requires)

pub loop-stat-preserved : goal.loop-stat-preserved
loop-stat-preserved c =
    let longer = ap (list_of (tree own_number c.args.chunk.now.nodes)) (take_more c.as_slice-stat-items.result.now c.loop-stat.stat-index c.stat-item.result c.loop-stat-test.true ∙ ap (λ x. take c.loop-stat.stat-index c.as_slice-stat-items.result.now ++ x ∷ []) (sym c.stat-item.is))
    ∙ list_of_push (tree own_number c.args.chunk.now.nodes) (take c.loop-stat.stat-index c.as_slice-stat-items.result.now) c.stat-item.result
    in subst (λ (ts : Trees). Scanned (tree own_number c.args.chunk.now.nodes) (length c.args.chunk.now.nodes) ts c.push.new.self) (sym longer) (c.in_ok-push.ensures _ c.loop-stat.invariant)

pub returns : goal.returns
returns c =
    let whole = ap stats_in (c.node-node.ensures.tree own_number c.line-line.result c.line-line.ensures.line)
    ∙ (stats_some (tree own_number c.args.chunk.now.nodes) c.args.id c.line-line.result c.node-node.result.now c.in-Some.stats.now c.in-Some.ensures
    ∙ ap (list_of (tree own_number c.args.chunk.now.nodes)) (sym (take_all c.loop-stat.stat-index c.as_slice-stat-items.result.now c.loop-stat-test.false ∙ c.as_slice-stat-items.ensures)))
    in subst (λ (ts : Trees). Scanned (tree own_number c.args.chunk.now.nodes) (length c.args.chunk.now.nodes) ts c.loop-stat.all) (sym whole) c.loop-stat.invariant
