pub mod Triples
pub mod Positions
pub mod Rulers
pub mod Apart
pub mod Leaders
pub mod States
pub mod Tested
mod Wins
pub mod Telling
pub mod Quotient
pub mod Options
pub mod Raised
pub mod Periods
pub mod Larger
pub mod Farther
pub mod Finite
pub mod Values
pub mod Normal
