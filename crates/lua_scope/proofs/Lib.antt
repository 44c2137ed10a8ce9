mod CasesDone
mod Examples
mod NodeWalks
mod NodeSizes
mod Scanning
mod Blocks
mod Stepping
pub mod Reversed
pub mod TellsOnce
pub mod MetOnce
pub mod ToldOnce
pub mod Bodies
pub mod GrammarBlocks
mod StaysMet
pub mod EachMet
pub mod AllMet
pub mod NameTables
pub mod Naming
pub mod Targets
mod Resolving
mod Runs
mod Rising
mod NumberSets
pub mod Plain
pub mod PlainRefusals
pub mod Loading
mod OneAnswer
mod EveryText
pub mod Capturing
mod MetGotos
mod Landing
mod RefusedGotos
mod GotoExamples
