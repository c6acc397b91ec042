mod Order
mod Tried
mod Labels
pub mod Answered
mod Looked
mod Few
mod Fitting
mod Inside
mod OneAnswer
pub mod Entries
