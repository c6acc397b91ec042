pub mod Portions
pub mod Spelled
pub mod Refusals
pub mod ByteVerdicts
pub mod InfiniteAnswers
pub mod InfiniteRefusals
