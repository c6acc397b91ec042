pub mod Certified
pub mod Tables
pub mod Texts
pub mod Reading
pub mod Faults
pub mod Marked
pub mod Carried
pub mod Same
