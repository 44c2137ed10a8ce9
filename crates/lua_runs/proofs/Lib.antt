pub mod Left
pub mod FrameWeights
pub mod Lowering
pub mod StepWeights
pub mod Working
pub mod Going
pub mod Outcomes
pub mod HostCalls
