pub mod Triples
pub mod Tested
pub mod Quotient
pub mod Finite
pub mod Words
