pub mod Fields
pub mod LineKinds
