mod Going
pub mod LineLaws
