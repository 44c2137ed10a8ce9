use Rattle.lua_runs.proofs.HostCalls.{less_full, less_served}
use Rattle.lua_runs.proofs.laws.host_calls_lower.Goals as goal

pub returns-clause-full : goal.returns-clause-full
returns-clause-full g c = λ nodes f args lines own x within left. less_full nodes f args lines own x within left

pub returns-clause-served : goal.returns-clause-served
returns-clause-served g c = λ host nodes t w f args lines own x a h t' w' law hosted answers within. less_served nodes f args lines own x host t w a h t' w' law hosted answers within
