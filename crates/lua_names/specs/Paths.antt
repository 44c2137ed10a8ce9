-- The names of functions.
use Rattle.std.specs.Prelude.{ℕ, Bool, true, false, List}
use Rattle.lua_ast.specs.Tree.{Tree}
use Rattle.lua_grammar.specs.Signs.{Attributes}
use Rattle.lua_grammar.specs.Pushdown as pushdown

-- What follows a further name of the path of a function that is named: the path goes on, or the function begins, if it is a method.
abbrev pub after_path : Tree → (method : Bool) → ℕ → pushdown.Begun → Attributes → List pushdown.Frame → pushdown.State
after_path t true own b i k = pushdown.after_name (pushdown.ForFunctionMethod own t b) k i
after_path t false own b i k = pushdown.after_name (pushdown.ForFunctionField own t b) k i
