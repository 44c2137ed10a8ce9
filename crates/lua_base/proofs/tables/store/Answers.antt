use Rattle.std.proofs.Common.{rules, ◌≡◌, false, sym, subst, IfSome}
use Rattle.lua_meaning.specs.declared.value.Value.TheVariants as value
use Rattle.lua_meaning.specs.Values.{is_nil}
use Rattle.lua_meaning.specs.Heap.{HeapOf}
use Rattle.lua_meaning.specs.Jobs.{Answer}
use Rattle.lua_values.specs.Answers.{builtin_answer}
use Rattle.lua_arguments.specs.Answering.{gives_value}
use Rattle.lua_base.proofs.Storing.{store_done}
use Rattle.lua_base.proofs.tables.store.Goals as goal

pub returns-in-Ok-clause-answer : goal.returns-in-Ok-clause-answer
returns-in-Ok-clause-answer g c =
    let some : is_nil c.args.key ≡ false = search rules in
    let put = c.in-Ok.ensures.ok in
    let done = store_done c.args.table c.args.key c.args.content c.args.lines.now (gives_value (value.Table c.args.table)) c.args.heap.now c.set.new.self some put in
    subst (λ (x : Answer × HeapOf). IfSome (builtin_answer c.give_value.result) (λ a. x ≡ (a, c.set.new.self))) (sym done) c.give_value.ensures.answer
