use Rattle.std.proofs.Common.{List, sym, subst}
use Rattle.lua_lexer.specs.declared.token.Token.{Token}
use Rattle.lua_parser.specs.Parsing.{IsRefusal}
use Rattle.lua_scope.specs.declared.load_error.LoadError.{LoadError}
use Rattle.lua_scope.specs.Loads.{IsLoadFailure}
use Rattle.lua_scope.proofs.Loading.{parse_fails}
use Rattle.lua_scope.proofs.parsed.chunk_of.Goals as goal

pub returns-clause-fails : goal.returns-clause-fails
returns-clause-fails c =
    subst (λ (e : LoadError). IsLoadFailure c.args.text.now e) (sym c.of_parse.ensures)
    (parse_fails c.args.text.now c.in_ok-tokens.tokens.items c.in-Err.error c.requires c.in_ok-tokens.ensures.tokens
    (subst (λ (ts : List Token). IsRefusal c.args.text.now ts c.in-Err.error) c.as_slice.ensures.value c.in-Err.ensures.fails))
