mod Parts
mod Repeats
mod Finds
mod Examples
