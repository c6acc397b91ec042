pub mod Presented
pub mod Printed
pub mod Bases
pub mod Met
