use Rattle.lua_ast.proofs.Growing.{list_of_push, cases_of_push, cases_of_test, fields_of_push}
use Rattle.lua_ast.proofs.laws.longer_lists.Goals as goal

pub returns-clause-list : goal.returns-clause-list
returns-clause-list c = λ part is i. list_of_push part is i

pub returns-clause-cases : goal.returns-clause-cases
returns-clause-cases c = λ part tests blocks t b even. cases_of_push part tests blocks t b even

pub returns-clause-test : goal.returns-clause-test
returns-clause-test c = λ part tests blocks t even. cases_of_test part tests blocks t even

pub returns-clause-fields : goal.returns-clause-fields
returns-clause-fields c = λ part fs f. fields_of_push part fs f
