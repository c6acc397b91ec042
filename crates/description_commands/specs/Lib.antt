pub mod Shown
pub mod Described
pub mod Lines
pub mod Alike
pub mod Operands
pub mod Compared
pub mod Presented
