pub mod Assembled
pub mod Rows
pub mod MadeRows
pub mod Said
pub mod Out
pub mod AllLines
