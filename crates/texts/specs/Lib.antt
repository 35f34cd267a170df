pub mod Faults
pub mod Any
pub mod Grammar
pub mod Reading
pub mod Gives
pub mod TextLaws
pub mod Writing
pub mod Tidying
