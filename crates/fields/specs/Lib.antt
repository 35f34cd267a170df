pub mod Pieces
pub mod Numbers
pub mod Writing
pub mod Written
