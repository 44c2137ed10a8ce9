mod Declarations
mod Labels
mod NodeConstants
mod OtherFrames
mod OtherValues
