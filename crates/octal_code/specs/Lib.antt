pub mod Bits
pub mod Text
pub mod Spelling
pub mod Digits
pub mod Faults
