pub mod Sums
pub mod Kept
pub mod MapLemmas
pub mod ImageLemmas
pub mod KeyLemmas
pub mod UnitLemmas
pub mod SearchLemmas
pub mod Told
