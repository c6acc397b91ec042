pub mod Tails
pub mod Values
pub mod Normal
pub mod NormalTails
