use Rattle.lua_runs.proofs.HostCalls.{stops_spent, fails_full, goes_on_served}
use Rattle.lua_runs.proofs.laws.host_calls_go_on.Goals as goal

pub returns-clause-spent : goal.returns-clause-spent
returns-clause-spent g c = λ host code nodes t w o f args lines own x hosted spent running. stops_spent host code nodes t w o f args lines own x hosted running spent

pub returns-clause-full : goal.returns-clause-full
returns-clause-full g c = λ host code nodes t w o f args lines own x hosted left full running. fails_full host code nodes t w o f args lines own x hosted running left full

pub returns-clause-served : goal.returns-clause-served
returns-clause-served g c = λ host code nodes t w o f args lines own x a h t' w' law plain hosted left room answers within later made threads running.
    goes_on_served host code nodes t w o f args lines own x hosted running law plain a h t' w' answers left room within later made threads
