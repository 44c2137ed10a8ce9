use Rattle.std.proofs.Common.{sym, subst}
use Rattle.lua_scope.specs.declared.load_error.LoadError.{LoadError}
use Rattle.lua_scope.specs.Loads.{IsLoadFailure}
use Rattle.lua_scope.proofs.Loading.{lex_fails}
use Rattle.lua_scope.proofs.parsed.tokens_of.Goals as goal

pub returns-in-Err : goal.returns-in-Err
returns-in-Err c = record {
  tokens = tt;
  fails = subst (λ (e : LoadError). IsLoadFailure c.args.text.now e) (sym c.of_lex.ensures) (lex_fails c.args.text.now c.in-Err.error c.requires c.in-Err.ensures.refused);
}
