pub mod Due
pub mod Streamed
