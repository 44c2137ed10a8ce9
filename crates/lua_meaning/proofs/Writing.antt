-- Trees written out by hand, for the worked examples.
-- Nodes that no clause asks the number of have 0. A Name has one more than its variable, and 0 where it is a field of the globals. What declares variables has the first of them. Functions are 100, 101 and so on, in the order of their list.
use Rattle.std.specs.Prelude.{ℕ, zero, suc, ◌+◌, ◌-◌, pos, Bool, List, [], ◌∷◌, map, codes, nat_lt, ◌==◌, if◌then◌else◌, Option, Some, None, slice_get}
use Rattle.std.specs.List.{list_any}
use Rattle.std.specs.Option.{unwrap_or}
use Prim.Native.String.{String}
use Rattle.lua_ast.specs.declared.node.Literal.TheVariants as literal
use Rattle.lua_ast.specs.declared.node.BinOp.{BinOp}
use Rattle.lua_ast.specs.Tree.{Tree, Block, Local, Assign, CallStat, LocalFunction, Return, Goto, Label, Const, Function, Name, Index, Call, Binary, Table, Missing, Trees, none, snoc, Fields}
use Rattle.lua_meaning.specs.Code.{Code}

abbrev pub parts : List Tree → Trees
parts ts = behind none ts
  where
    behind : Trees → List Tree → Trees
    behind before [] = before
    behind before (t ∷ ts) = behind (snoc before t) ts

abbrev pub names : List String → List (List ℕ)
names ns = map (λ n. codes n) ns

-- expressions, on line 1

abbrev pub int : ℕ → Tree
int n = Const 0 1 (literal.Int (pos n))

abbrev pub text : String → Tree
text s = Const 0 1 (literal.Text (codes s))

abbrev pub nil : Tree
nil = Const 0 1 literal.Nil

abbrev pub name : (variable : ℕ) → String → Tree
name v s = Name (v + 1) 1 (codes s)

abbrev pub global : String → Tree
global s = Name 0 1 (codes s)

abbrev pub dot : Tree → String → Tree
dot t s = Index 0 1 t (text s)

abbrev pub call : Tree → List Tree → Tree
call f args = Call 0 1 f (parts args)

abbrev pub binary : BinOp → Tree → Tree → Tree
binary op a b = Binary 0 1 op a b

abbrev pub table : Fields → Tree
table fs = Table 0 1 fs

abbrev pub function : (number : ℕ) → List String → (vararg : Bool) → List Tree → Tree
function n params vararg stats = Function n 1 (names params) vararg (Block 0 1 (parts stats))

-- statements, on line 1

abbrev pub block : List Tree → Tree
block ts = Block 0 1 (parts ts)

abbrev pub does : Tree → Tree
does t = CallStat 0 1 t

abbrev pub gives : List Tree → Tree
gives ts = Return 0 1 (parts ts)

abbrev pub local : (variable : ℕ) → List String → List Tree → Tree
local v ns ts = Local v 1 (names ns) (parts ts)

abbrev pub local_function : (variable : ℕ) → String → Tree → Tree
local_function v n f = LocalFunction v 1 (codes n) f

abbrev pub assign : List Tree → List Tree → Tree
assign ts es = Assign 0 1 (parts ts) (parts es)

abbrev pub goto : String → Tree
goto s = Goto 0 1 (codes s)

abbrev pub label : String → Tree
label s = Label 0 1 (codes s)

-- a function of the text: its node, its first parameter's variable, and the variables that it captures
pub record Written : Type 0 where
  pub tree : Tree
  pub first : ℕ
  pub captures : List ℕ

abbrev pub written : Tree → (first : ℕ) → (captures : List ℕ) → Written
written t v vs = record { tree = t; first = v; captures = vs }

abbrev function_at : List Written → ℕ → Written
function_at fs n = unwrap_or (slice_get fs (n - 100)) (written Missing 0 [])

-- what the numbers mean, with these functions and captured variables
abbrev pub code_of : List Written → List ℕ → Code
code_of fs captured = record {
  function = λ n. (function_at fs n).tree;
  variable = variable;
  first_variable = λ n. if nat_lt n 100 then n else (function_at fs n).first;
  is_captured = λ v. list_any (λ c. c == v) captured;
  captured = λ n. (function_at fs n).captures;
}
  where
    variable : ℕ → Option ℕ
    variable zero = None
    variable (suc v) = Some v
