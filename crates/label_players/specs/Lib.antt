pub mod Triples
pub mod Values
pub mod WholeTold
pub mod Wide
pub mod Plays
pub mod Forms
pub mod Told
