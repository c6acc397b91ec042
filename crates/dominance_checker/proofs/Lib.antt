pub mod Mapped
pub mod Repeats
pub mod Results
pub mod Said
pub mod Claims
pub mod Claimed
pub mod Laps
pub mod Heights
