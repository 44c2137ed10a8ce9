-- What metamethods handle, and the keys that they stand at (Lua 5.2 manual, 2.4 and 6.1).
use Rattle.std.specs.Prelude.{ℕ, List, [], ◌∷◌, map, codes}
use Rattle.lua_meaning.specs.declared.value.Value.{Value}
use Rattle.lua_meaning.specs.declared.value.Value.TheVariants as value
use Rattle.lua_values.specs.declared.event.Event.{Event}
use Rattle.lua_values.specs.declared.event.Event.TheVariants as on

abbrev pub event_name : Event → List ℕ
event_name on.Add = codes "__add"
event_name on.Sub = codes "__sub"
event_name on.Mul = codes "__mul"
event_name on.Div = codes "__div"
event_name on.Mod = codes "__mod"
event_name on.Pow = codes "__pow"
event_name on.Unm = codes "__unm"
event_name on.Concat = codes "__concat"
event_name on.Len = codes "__len"
event_name on.Eq = codes "__eq"
event_name on.Lt = codes "__lt"
event_name on.Le = codes "__le"
event_name on.Index = codes "__index"
event_name on.NewIndex = codes "__newindex"
event_name on.Call = codes "__call"
event_name on.ToString = codes "__tostring"
event_name on.Pairs = codes "__pairs"
event_name on.Ipairs = codes "__ipairs"
event_name on.Metatable = codes "__metatable"

abbrev pub all_events : List Event
all_events =
    on.Add ∷ on.Sub ∷ on.Mul ∷ on.Div ∷ on.Mod ∷ on.Pow ∷ on.Unm ∷ on.Concat ∷ on.Len ∷ on.Eq ∷ on.Lt ∷ on.Le ∷ on.Index ∷ on.NewIndex ∷ on.Call ∷ on.ToString ∷ on.Pairs ∷ on.Ipairs ∷ on.Metatable ∷ []

abbrev pub keys_of_events : List Event → List Value
keys_of_events es = map (λ e. value.Text (event_name e)) es

-- those of all
abbrev pub event_keys : List Value
event_keys = keys_of_events all_events
