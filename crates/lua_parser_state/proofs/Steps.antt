-- A step's answer at equal states.
use Rattle.std.specs.Prelude.{◌≡◌, Option, Result}
use Rattle.std.proofs.Common.{subst, sym}
use Rattle.lua_grammar.specs.Pushdown as pushdown
use Rattle.lua_parser_state.specs.declared.refusal.Refusal.{Refusal}
use Rattle.lua_parser_state.specs.declared.state.State.{State}
use Rattle.lua_parser_state.specs.Shown.{Held}
use Rattle.lua_parser_state.specs.Gave.{Gave}

pub gave_at : {A : Type 0} (f g : A → Option pushdown.State) (x y : A) (r : Result State Refusal) (h : Held) → x ≡ y → Gave (f y) (g y) r h → Gave (f x) (g x) r h
gave_at {A} f g x y r h e p = subst (λ (z : A). Gave (f z) (g z) r h) (sym e) p

pub gave_as : (c d f g : Option pushdown.State) (r : Result State Refusal) (h : Held) → c ≡ d → f ≡ g → Gave d g r h → Gave c f r h
gave_as c d f g r h p q x = subst (λ (y : Option pushdown.State). Gave y f r h) (sym p) (subst (λ (y : Option pushdown.State). Gave d y r h) (sym q) x)
