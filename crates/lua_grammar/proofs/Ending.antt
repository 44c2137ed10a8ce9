-- At the end of a text the automaton is done, or refuses it.
use Rattle.std.specs.Prelude.{◌≡◌, List, [], ◌∷◌, Some}
use Rattle.std.proofs.Common.{subst}
use Rattle.lua_ast.specs.Tree as tree
use Rattle.lua_ast.specs.Tree.{Tree, none, snoc, line_of}
use Rattle.lua_grammar.specs.Kinds as kind
use Rattle.lua_grammar.specs.Signs.{Attributes}
use Rattle.lua_grammar.specs.Operators.{joined}
use Rattle.lua_grammar.specs.Grammar.{is_call}
use Rattle.lua_grammar.specs.Pushdown.{Begun, begun, add, block_of, Frame, InUnary, InBinary, InLocal, InStat, InAssign, InReturn, InUntil, InDo, State, Have, BlockNext, StatNext, LocalNames, ReturnNext, BlockEnd, Done, end_block, after_prefix, close, rest, step_from}
use Rattle.lua_grammar.proofs.Sound.{some_is, if_is}

abbrev pub IsDone : State → Type 0
IsDone (Done t) = Unit {0}
IsDone _ = ⊥

end_block_done : (k : List Frame) (t : Tree) (i : Attributes) (z : State) → end_block k t kind.EndOfText i ≡ Some z → IsDone z
end_block_done [] t i z h = subst IsDone (some_is h) tt
end_block_done (InDo _ _ ∷ k) t i z h = cc
end_block_done (_ ∷ k) t i z h = cc

after_prefix_done : (t : Tree) (b : Begun) (k : List Frame) (i : Attributes) (z : State) → after_prefix t b k kind.EndOfText i ≡ Some z → IsDone z
after_prefix_done t b k i z h =
    let r = if_is (is_call t) (end_block k (block_of (add b (tree.CallStat 0 (line_of t) t))) kind.EndOfText i) z h in
    end_block_done k (block_of (add b (tree.CallStat 0 (line_of t) t))) i z r.1

close_done : (f : Frame) (t : Tree) (k : List Frame) (i : Attributes) (z : State) → close f t k kind.EndOfText i ≡ Some z → IsDone z
close_done (InLocal l ns es b) t k i z h = end_block_done k (block_of (add b (tree.Local 0 l ns (snoc es t)))) i z h
close_done (InAssign l ts es b) t k i z h = end_block_done k (block_of (add b (tree.Assign 0 l ts (snoc es t)))) i z h
close_done (InStat b) t k i z h = after_prefix_done t b k i z h
close_done (InReturn l es b) t k i z h = end_block_done k (block_of (add b (tree.Return 0 l (snoc es t)))) i z h
close_done (InUntil l e b) t k i z h = end_block_done k (block_of (add b (tree.Repeat 0 l e t))) i z h
close_done _ t k i z h = cc

rest_done : (k : List Frame) (t : Tree) (i : Attributes) (z : State) → rest k t kind.EndOfText i ≡ Some z → IsDone z
rest_done [] t i z h = cc
rest_done (InUnary q l op ∷ k) t i z h = rest_done k (tree.Unary 0 l op t) i z h
rest_done (InBinary q op l ∷ k) t i z h = rest_done k (joined op l t) i z h
rest_done (f ∷ k) t i z h = close_done f t k i z h

pub end_done : (o : State) (i : Attributes) (z : State) → step_from o kind.EndOfText i ≡ Some z → IsDone z
end_done (Have p t k) i z h = rest_done k t i z h
end_done (BlockNext k) i z h = end_block_done k (block_of (begun i.line)) i z h
end_done (StatNext b k) i z h = end_block_done k (block_of b) i z h
end_done (LocalNames l ns b k) i z h = end_block_done k (block_of (add b (tree.Local 0 l ns none))) i z h
end_done (ReturnNext l b k) i z h = end_block_done k (block_of (add b (tree.Return 0 l none))) i z h
end_done (BlockEnd b k) i z h = end_block_done k (block_of b) i z h
end_done _ i z h = cc
