-- The second and the third example of zfs-program(8) are texts of the grammar.
use Rattle.std.specs.Prelude.{◌≡◌, Bool, true, false, List, [], ◌∷◌, refl, codes}
use Rattle.lua_lexer.specs.declared.token.TokenKind.TheVariants as token_kind
use Rattle.lua_ast.specs.Tree.{Tree}
use Rattle.lua_grammar.specs.Parses.{Reading, parsed}
use Rattle.lua_grammar.specs.Deciding.{reading}
use Rattle.lua_grammar.proofs.Words.{Word, plain, a_name, a_number, a_text, new_line, text_of_words, tokens, ReadsAs, read_as}

abbrev is_parsed : Reading → Bool
is_parsed (parsed _) = true
is_parsed _ = false

-- The words are a text with some tree.
record IsText (ws : List Word) : Type 0 where
  tree : Tree
  holds : ReadsAs ws (parsed tree)

text_by : (ws : List Word) (r : Reading) → reading (text_of_words ws) (tokens ws) ≡ r → is_parsed r ≡ true → IsText ws
text_by ws (parsed t) e h = record { tree = t; holds = read_as e }
text_by ws _ e h = cc

is_text : {ws : List Word} → is_parsed (reading (text_of_words ws) (tokens ws)) ≡ true → IsText ws
is_text {ws = ws} h = text_by ws (reading (text_of_words ws) (tokens ws)) refl h

-- succeeded = {}
-- failed = {}
-- function destroy_recursive(root)
--   for child in zfs.list.children(root) do
--     destroy_recursive(child)
--   end
--   for snap in zfs.list.snapshots(root) do
--     err =
--       zfs.sync.destroy(snap)
--     if (err ~= 0) then failed[snap] = err else succeeded[snap] = err end
--   end
--   err = zfs.sync.destroy(root)
--   if (err ~= 0) then failed[root] = err else succeeded[root] = err end
-- end
-- args = ...
-- argv = args["argv"]
-- destroy_recursive(argv[1])
-- results = {}
-- results["succeeded"] = succeeded
-- results["failed"] = failed
-- return results
destroys_all_below : IsText
    (a_name (codes "succeeded") ∷ plain token_kind.Assign ∷ plain token_kind.OpenBrace ∷ plain token_kind.CloseBrace ∷ new_line
    ∷ a_name (codes "failed") ∷ plain token_kind.Assign ∷ plain token_kind.OpenBrace ∷ plain token_kind.CloseBrace ∷ new_line
    ∷ plain token_kind.Function ∷ a_name (codes "destroy_recursive") ∷ plain token_kind.OpenParen ∷ a_name (codes "root") ∷ plain token_kind.CloseParen ∷ new_line
    ∷ plain token_kind.For ∷ a_name (codes "child") ∷ plain token_kind.In ∷ a_name (codes "zfs") ∷ plain token_kind.Dot ∷ a_name (codes "list") ∷ plain token_kind.Dot ∷ a_name (codes "children") ∷ plain token_kind.OpenParen ∷ a_name (codes "root") ∷ plain token_kind.CloseParen ∷ plain token_kind.Do ∷ new_line
    ∷ a_name (codes "destroy_recursive") ∷ plain token_kind.OpenParen ∷ a_name (codes "child") ∷ plain token_kind.CloseParen ∷ new_line
    ∷ plain token_kind.End ∷ new_line
    ∷ plain token_kind.For ∷ a_name (codes "snap") ∷ plain token_kind.In ∷ a_name (codes "zfs") ∷ plain token_kind.Dot ∷ a_name (codes "list") ∷ plain token_kind.Dot ∷ a_name (codes "snapshots") ∷ plain token_kind.OpenParen ∷ a_name (codes "root") ∷ plain token_kind.CloseParen ∷ plain token_kind.Do ∷ new_line
    ∷ a_name (codes "err") ∷ plain token_kind.Assign ∷ new_line
    ∷ a_name (codes "zfs") ∷ plain token_kind.Dot ∷ a_name (codes "sync") ∷ plain token_kind.Dot ∷ a_name (codes "destroy") ∷ plain token_kind.OpenParen ∷ a_name (codes "snap") ∷ plain token_kind.CloseParen ∷ new_line
    ∷ plain token_kind.If ∷ plain token_kind.OpenParen ∷ a_name (codes "err") ∷ plain token_kind.NotEqual ∷ a_number (codes "0") ∷ plain token_kind.CloseParen ∷ plain token_kind.Then ∷ a_name (codes "failed") ∷ plain token_kind.OpenBracket ∷ a_name (codes "snap") ∷ plain token_kind.CloseBracket ∷ plain token_kind.Assign ∷ a_name (codes "err") ∷ plain token_kind.Else ∷ a_name (codes "succeeded") ∷ plain token_kind.OpenBracket ∷ a_name (codes "snap") ∷ plain token_kind.CloseBracket ∷ plain token_kind.Assign ∷ a_name (codes "err") ∷ plain token_kind.End ∷ new_line
    ∷ plain token_kind.End ∷ new_line
    ∷ a_name (codes "err") ∷ plain token_kind.Assign ∷ a_name (codes "zfs") ∷ plain token_kind.Dot ∷ a_name (codes "sync") ∷ plain token_kind.Dot ∷ a_name (codes "destroy") ∷ plain token_kind.OpenParen ∷ a_name (codes "root") ∷ plain token_kind.CloseParen ∷ new_line
    ∷ plain token_kind.If ∷ plain token_kind.OpenParen ∷ a_name (codes "err") ∷ plain token_kind.NotEqual ∷ a_number (codes "0") ∷ plain token_kind.CloseParen ∷ plain token_kind.Then ∷ a_name (codes "failed") ∷ plain token_kind.OpenBracket ∷ a_name (codes "root") ∷ plain token_kind.CloseBracket ∷ plain token_kind.Assign ∷ a_name (codes "err") ∷ plain token_kind.Else ∷ a_name (codes "succeeded") ∷ plain token_kind.OpenBracket ∷ a_name (codes "root") ∷ plain token_kind.CloseBracket ∷ plain token_kind.Assign ∷ a_name (codes "err") ∷ plain token_kind.End ∷ new_line
    ∷ plain token_kind.End ∷ new_line
    ∷ a_name (codes "args") ∷ plain token_kind.Assign ∷ plain token_kind.Ellipsis ∷ new_line
    ∷ a_name (codes "argv") ∷ plain token_kind.Assign ∷ a_name (codes "args") ∷ plain token_kind.OpenBracket ∷ a_text (codes "argv") ∷ plain token_kind.CloseBracket ∷ new_line
    ∷ a_name (codes "destroy_recursive") ∷ plain token_kind.OpenParen ∷ a_name (codes "argv") ∷ plain token_kind.OpenBracket ∷ a_number (codes "1") ∷ plain token_kind.CloseBracket ∷ plain token_kind.CloseParen ∷ new_line
    ∷ a_name (codes "results") ∷ plain token_kind.Assign ∷ plain token_kind.OpenBrace ∷ plain token_kind.CloseBrace ∷ new_line
    ∷ a_name (codes "results") ∷ plain token_kind.OpenBracket ∷ a_text (codes "succeeded") ∷ plain token_kind.CloseBracket ∷ plain token_kind.Assign ∷ a_name (codes "succeeded") ∷ new_line
    ∷ a_name (codes "results") ∷ plain token_kind.OpenBracket ∷ a_text (codes "failed") ∷ plain token_kind.CloseBracket ∷ plain token_kind.Assign ∷ a_name (codes "failed") ∷ new_line
    ∷ plain token_kind.Return ∷ a_name (codes "results") ∷ new_line
    ∷ [])
unfolding reading
destroys_all_below = is_text refl

-- function force_promote(ds)
--   errno, details = zfs.check.promote(ds)
--   if (errno == EEXIST) then
--     assert(details ~= Nil)
--     for i, snap in ipairs(details) do
--       zfs.sync.destroy(ds .. "@" .. snap)
--     end
--   elseif (errno ~= 0) then
--     return errno
--   end
--   return zfs.sync.promote(ds)
-- end
promotes_by_force : IsText
    (plain token_kind.Function ∷ a_name (codes "force_promote") ∷ plain token_kind.OpenParen ∷ a_name (codes "ds") ∷ plain token_kind.CloseParen ∷ new_line
    ∷ a_name (codes "errno") ∷ plain token_kind.Comma ∷ a_name (codes "details") ∷ plain token_kind.Assign ∷ a_name (codes "zfs") ∷ plain token_kind.Dot ∷ a_name (codes "check") ∷ plain token_kind.Dot ∷ a_name (codes "promote") ∷ plain token_kind.OpenParen ∷ a_name (codes "ds") ∷ plain token_kind.CloseParen ∷ new_line
    ∷ plain token_kind.If ∷ plain token_kind.OpenParen ∷ a_name (codes "errno") ∷ plain token_kind.Equal ∷ a_name (codes "EEXIST") ∷ plain token_kind.CloseParen ∷ plain token_kind.Then ∷ new_line
    ∷ a_name (codes "assert") ∷ plain token_kind.OpenParen ∷ a_name (codes "details") ∷ plain token_kind.NotEqual ∷ a_name (codes "Nil") ∷ plain token_kind.CloseParen ∷ new_line
    ∷ plain token_kind.For ∷ a_name (codes "i") ∷ plain token_kind.Comma ∷ a_name (codes "snap") ∷ plain token_kind.In ∷ a_name (codes "ipairs") ∷ plain token_kind.OpenParen ∷ a_name (codes "details") ∷ plain token_kind.CloseParen ∷ plain token_kind.Do ∷ new_line
    ∷ a_name (codes "zfs") ∷ plain token_kind.Dot ∷ a_name (codes "sync") ∷ plain token_kind.Dot ∷ a_name (codes "destroy") ∷ plain token_kind.OpenParen ∷ a_name (codes "ds") ∷ plain token_kind.Concat ∷ a_text (codes "@") ∷ plain token_kind.Concat ∷ a_name (codes "snap") ∷ plain token_kind.CloseParen ∷ new_line
    ∷ plain token_kind.End ∷ new_line
    ∷ plain token_kind.Elseif ∷ plain token_kind.OpenParen ∷ a_name (codes "errno") ∷ plain token_kind.NotEqual ∷ a_number (codes "0") ∷ plain token_kind.CloseParen ∷ plain token_kind.Then ∷ new_line
    ∷ plain token_kind.Return ∷ a_name (codes "errno") ∷ new_line
    ∷ plain token_kind.End ∷ new_line
    ∷ plain token_kind.Return ∷ a_name (codes "zfs") ∷ plain token_kind.Dot ∷ a_name (codes "sync") ∷ plain token_kind.Dot ∷ a_name (codes "promote") ∷ plain token_kind.OpenParen ∷ a_name (codes "ds") ∷ plain token_kind.CloseParen ∷ new_line
    ∷ plain token_kind.End ∷ new_line
    ∷ [])
unfolding reading
promotes_by_force = is_text refl
