mod Fronts
mod KeyCounts
pub mod LineLemmas
mod TextLemmas
