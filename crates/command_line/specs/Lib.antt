pub mod Numbers
pub mod Plans
pub mod Program
pub mod Refusals
pub mod Requests
pub mod Status
pub mod Wanted
