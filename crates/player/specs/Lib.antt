pub mod Looks
pub mod Wins
pub mod Labels
pub mod Answers
pub mod Numbers
pub mod Many
pub mod Asked
