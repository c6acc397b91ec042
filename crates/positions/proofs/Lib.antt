pub mod Permuted
pub mod Heaps
pub mod Words
pub mod Texts
pub mod Written
pub mod HeapsFit
