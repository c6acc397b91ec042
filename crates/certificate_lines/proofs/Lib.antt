pub mod FirstLine
pub mod KeyTests
pub mod Loop
