-- How statements begin and end.
use Rattle.std.specs.Prelude.{ℕ, cond, List, ◌∷◌, Option, Some, None}
use Rattle.lua_ast.specs.Tree as tree
use Rattle.lua_grammar.specs.Signs.{Terminal, Attributes}
use Rattle.lua_grammar.specs.Kinds as kind
use Rattle.lua_grammar.specs.Grammar.{is_call}
use Rattle.lua_grammar.specs.Pushdown as pushdown

-- In a statement that begins with a prefix, or in a further target of an assignment, a prefix begins.
abbrev pub begin_prefix : pushdown.Frame → List pushdown.Frame → Terminal → Attributes → Option pushdown.State
begin_prefix f k kind.Name i = Some (pushdown.Have 10 (tree.Name 0 i.line i.slice) (f ∷ k))
begin_prefix f k kind.OpenParen i = pushdown.opened k i (pushdown.Need 0 (pushdown.InParen 10 i.line ∷ f ∷ k))
begin_prefix f k _ i = None

-- A statement with a block begins, or the block ends.
abbrev pub next_block : pushdown.Begun → List pushdown.Frame → Terminal → Attributes → Option pushdown.State
next_block b k kind.Do i = pushdown.opened k i (pushdown.BlockNext (pushdown.InDo i.line b ∷ k))
next_block b k kind.While i = Some (pushdown.Need 0 (pushdown.InWhileTest i.line b ∷ k))
next_block b k kind.Repeat i = pushdown.opened k i (pushdown.BlockNext (pushdown.InRepeat i.line b ∷ k))
next_block b k kind.If i = Some (pushdown.Need 0 (pushdown.InIfTest i.line tree.no_case b ∷ k))
next_block b k m i = pushdown.end_block k (pushdown.block_of b) m i

-- What follows an expression that is a statement, which is a call.
abbrev pub call_statement : ℕ → tree.Tree → pushdown.Begun → List pushdown.Frame → Terminal → Attributes → Option pushdown.State
call_statement l t b k m i = cond (is_call t) (pushdown.next (pushdown.add b (tree.CallStat 0 l t)) k m i) None
