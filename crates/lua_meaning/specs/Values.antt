-- Values (Lua 5.2 manual, 2.1). This project's own: numbers are whole and of 64 bits.
use Rattle.std.specs.Prelude.{ℕ, Bool, true, false, not, ◌==◌, List, [], ◌∷◌, Option, Some, None, bytes_eq, codes}
use Rattle.std.specs.Ordering.{int_eq}
use Rattle.lua_ast.specs.declared.node.Literal.{Literal}
use Rattle.lua_ast.specs.declared.node.Literal.TheVariants as literal
use Rattle.lua_meaning.specs.declared.value.Value.{Value}
use Rattle.lua_meaning.specs.declared.value.Value.TheVariants as value
use Rattle.lua_meaning.specs.contracts.builtin.BuiltinPartialEq.TheImpl.{eq-value as builtin_eq}

-- two truth values are the same
abbrev pub bool_eq : Bool → Bool → Bool
bool_eq true b = b
bool_eq false b = not b

-- The same kind and the same value; tables, functions and coroutines by identity. This is `==` without metamethods (3.4.3, `rawequal` of 6.1).
abbrev pub same : Value → Value → Bool
same value.Nil value.Nil = true
same (value.Bool a) (value.Bool b) = bool_eq a b
same (value.Int x) (value.Int y) = int_eq x y
same (value.Text s) (value.Text t) = bytes_eq s t
same (value.Table i) (value.Table j) = i == j
same (value.Closure i) (value.Closure j) = i == j
same (value.Builtin b) (value.Builtin c) = builtin_eq.it b c
same (value.Iter i) (value.Iter j) = i == j
same (value.Thread i) (value.Thread j) = i == j
same _ _ = false

abbrev pub is_nil : Value → Bool
is_nil value.Nil = true
is_nil _ = false

-- only nil and false are false (3.4.4)
abbrev pub truth : Value → Bool
truth value.Nil = false
truth (value.Bool b) = b
truth _ = true

abbrev pub is_function : Value → Bool
is_function (value.Closure _) = true
is_function (value.Builtin _) = true
is_function (value.Iter _) = true
is_function _ = false

-- the name of its type, as `type` gives it (6.1)
abbrev pub type_name : Value → List ℕ
type_name value.Nil = codes "nil"
type_name (value.Bool _) = codes "boolean"
type_name (value.Int _) = codes "number"
type_name (value.Text _) = codes "string"
type_name (value.Table _) = codes "table"
type_name (value.Thread _) = codes "thread"
type_name _ = codes "function"

-- the value of a constant in the text
abbrev pub of_literal : Literal → Value
of_literal literal.Nil = value.Nil
of_literal (literal.Bool b) = value.Bool b
of_literal (literal.Int z) = value.Int z
of_literal (literal.Text s) = value.Text s

-- the first of a list of values, or nil
abbrev pub first : List Value → Value
first [] = value.Nil
first (v ∷ vs) = v

abbrev pub or_nil : Option Value → Value
or_nil None = value.Nil
or_nil (Some v) = v
