pub mod Turns
pub mod Exact
pub mod Allowed
pub mod Rising
pub mod OptionLaws
pub mod WalkLaws
