pub mod Kept
pub mod Telling
pub mod Presented
pub mod Numbers
pub mod Numbering
pub mod Told
pub mod Marks
