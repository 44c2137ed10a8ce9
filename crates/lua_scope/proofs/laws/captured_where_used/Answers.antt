use Rattle.lua_scope.proofs.Capturing.{captured_used, used_captured, flagged_used, used_flagged}
use Rattle.lua_scope.proofs.laws.captured_where_used.Goals as goal

pub returns-clause-used : goal.returns-clause-used
returns-clause-used c = λ h f v is. captured_used h f v is

pub returns-clause-all : goal.returns-clause-all
returns-clause-all c = λ h f v u. used_captured h f v u

pub returns-clause-flagged : goal.returns-clause-flagged
returns-clause-flagged c = λ h v is. flagged_used h v is

pub returns-clause-flags : goal.returns-clause-flags
returns-clause-flags c = λ h f v u. used_flagged h f v u
