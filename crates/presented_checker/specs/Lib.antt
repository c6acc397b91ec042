pub mod Refused
pub mod Endless
pub mod Unrolled
