mod Writing
mod SampleHost
mod ProgramExamples
mod StatementExamples
mod LoopExamples
mod JumpExamples
mod ExpressionExamples
mod ListExamples
mod OperatorExamples
mod MetamethodExamples
mod IndexingExamples
mod CoroutineExamples
mod LimitExamples
pub mod Counts
pub mod NodeCounts
pub mod OperatorCounts
pub mod JobCounts
pub mod Growing
pub mod Operating
mod LawExamples
