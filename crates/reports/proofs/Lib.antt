pub mod Adding
pub mod Cells
pub mod Printing
