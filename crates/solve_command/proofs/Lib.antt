pub mod Came
mod First
mod Moves
mod SeriesParts
mod Parts
pub mod Streams
pub mod ToldTexts
