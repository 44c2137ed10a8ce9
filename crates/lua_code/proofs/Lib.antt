mod Parts
mod OneCode
mod Labels
mod Examples
