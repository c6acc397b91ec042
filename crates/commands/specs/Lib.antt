pub mod Causes
pub mod Obeys
pub mod Responses
pub mod Ends
