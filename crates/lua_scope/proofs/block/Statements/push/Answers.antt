use Rattle.std.proofs.Common.{◌+◌, length, ap, ◌∙◌}
use Rattle.lua_ast.specs.Decode.{tree, own_number}
use Rattle.lua_scope.proofs.Scanning.{scanned_label_node, scanned_other}
use Rattle.lua_scope.proofs.block.Statements.push.Goals as goal

pub returns-in_ok-push_label-in-Some : goal.returns-in_ok-push_label-in-Some
returns-in_ok-push_label-in-Some c = λ ts s.
    scanned_label_node (tree own_number c.args.chunk.now.nodes) (length c.args.chunk.now.nodes) ts c.args.self.now c.push_label.new.self c.args.id c.line-line.result c.node-node.result.now
    c.in-Some.label.now c.in-Some.ensures (c.node-node.ensures.tree own_number c.line-line.result c.line-line.ensures.line) s
    c.in_ok-push_label-in-Some.ensures.labels c.in_ok-push_label-in-Some.ensures.inside c.in_ok-push_label-in-Some.ensures.locals c.in_ok-push_label-in-Some.ensures.tasks

pub returns-in_ok-push_other-in-None : goal.returns-in_ok-push_other-in-None
returns-in_ok-push_other-in-None c = λ ts s.
    scanned_other (tree own_number c.args.chunk.now.nodes) (length c.args.chunk.now.nodes) ts c.args.self.now c.push_other.new.self c.args.id c.line-line.result c.node-node.result.now
    c.in-None.ensures c.requires (c.node-node.ensures.tree own_number c.line-line.result c.line-line.ensures.line) s
    c.in_ok-push_other-in-None.ensures.labels c.in_ok-push_other-in-None.ensures.inside (c.in_ok-push_other-in-None.ensures.locals ∙ ap (λ n. c.args.self.now.locals + n) c.count_locals.ensures) c.in_ok-push_other-in-None.ensures.tasks
