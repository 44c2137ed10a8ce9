use Rattle.lua_ast.proofs.SameParts.{same_node_tree, same_list_of, same_cases_of, same_fields_of, same_maybe_of}
use Rattle.lua_ast.proofs.laws.same_parts.Goals as goal

pub returns-clause-node : goal.returns-clause-node
returns-clause-node c = λ f g n same number line node below. same_node_tree f g n same number line node below

pub returns-clause-list : goal.returns-clause-list
returns-clause-list c = λ f g n same is below. same_list_of f g n same is below

pub returns-clause-cases : goal.returns-clause-cases
returns-clause-cases c = λ f g n same tests blocks p q. same_cases_of f g n same tests blocks p q

pub returns-clause-fields : goal.returns-clause-fields
returns-clause-fields c = λ f g n same fs below. same_fields_of f g n same fs below

pub returns-clause-maybe : goal.returns-clause-maybe
returns-clause-maybe c = λ f g n same o below. same_maybe_of f g n same o below
