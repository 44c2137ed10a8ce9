use Rattle.std.proofs.Common.{inl, inr}
use Rattle.std.proofs.lemmas.Bool.{cases_lt}
use Rattle.lua_scope.specs.Scope.{first_variable}
use Rattle.lua_scope.proofs.laws.captured_on_the_way.Goals as goal

pub returns : goal.returns
returns c = λ seen f g v u around. elim (cases_lt v (first_variable u.before f)) [
  | inl less ↦ inl (c.captured_where_used.ensures.all seen f v (record { node = u.node; name = u.name; before = u.before; met = u.met; means = u.means; inside = around; outer = less }))
  | inr later ↦ inr later
]
