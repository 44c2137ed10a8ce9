use Rattle.std.proofs.Common.{rules, ◌≡◌, ◌∷◌, IfOk, subst}
use Rattle.lua_meaning.specs.declared.value.Value.TheVariants as value
use Rattle.lua_meaning.specs.declared.variable.Target.TheVariants as target
use Rattle.lua_meaning.specs.Values.{first}
use Rattle.lua_steps.specs.declared.mode.Mode.TheVariants as mode
use Rattle.lua_steps.specs.Configuration.{Next}
use Rattle.lua_steps.specs.Parts.{line_number}
use Rattle.lua_steps.specs.Effects.{put_in, putting}
use Rattle.lua_frames.proofs.assignments.store_in.Goals as goal

pub returns-in-Global : goal.returns-in-Global
returns-in-Global g c =
    let now = c.args.configuration.now in
    let nodes = c.args.chunk.now.nodes in
    let key = value.Text c.in-Global.name in
    let is : c.args.target ≡ target.Global c.in-Global.name = search rules in
    let line : c.line_number-line.result ≡ line_number nodes c.args.node = c.line_number-line.ensures in
    let told = c.put.ensures now.call.lines in
    let by_table = subst (λ t. IfOk c.put.result (λ m. ◌≡◌ {A = Next} (m, c.put.new.self) (putting (put_in (c.line_number-line.result ∷ now.call.lines) t key c.take_first-value.result now.heap)
    (mode.Stores c.args.node c.args.targets c.take_first-value.new.self) now))) c.globals-globals.ensures.value told in
    let by_line = subst (λ l. IfOk c.put.result (λ m. ◌≡◌ {A = Next} (m, c.put.new.self) (putting (put_in (l ∷ now.call.lines) 0 key c.take_first-value.result now.heap)
    (mode.Stores c.args.node c.args.targets c.take_first-value.new.self) now))) line by_table in
    let by_value = subst (λ v. IfOk c.put.result (λ m. ◌≡◌ {A = Next} (m, c.put.new.self) (putting (put_in (line_number nodes c.args.node ∷ now.call.lines) 0 key v now.heap)
    (mode.Stores c.args.node c.args.targets c.take_first-value.new.self) now))) c.take_first-value.ensures.value by_line in
    let by_rest = subst (λ vs. IfOk c.put.result (λ m. ◌≡◌ {A = Next} (m, c.put.new.self) (putting (put_in (line_number nodes c.args.node ∷ now.call.lines) 0 key (first c.args.values) now.heap)
    (mode.Stores c.args.node c.args.targets vs) now))) c.take_first-value.ensures.others by_value in
    rw is by_rest
