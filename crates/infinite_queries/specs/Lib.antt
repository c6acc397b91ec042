pub mod Numbers
pub mod Asked
pub mod Described
pub mod Valued
