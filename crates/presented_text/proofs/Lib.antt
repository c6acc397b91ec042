pub mod ListLaws
pub mod Lines
pub mod TextLaws
pub mod Powers
pub mod WordLaws
pub mod WordLoop
pub mod Loop
