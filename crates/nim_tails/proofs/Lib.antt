mod Digits
mod TailSums
mod Groups
mod Tested
mod Walked
mod Marks
mod Sequences
mod NormalDigits
mod NormalSums
mod Outcomes
pub mod Mex
mod Regular
pub mod Ideals
mod NormalKernel
pub mod Failed
pub mod Beyond
