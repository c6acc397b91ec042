pub mod Numbers
pub mod Finding
pub mod Histories
pub mod Turns
pub mod Rounds
pub mod ProposedHistories
