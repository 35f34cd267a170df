pub mod Separated
pub mod Numerals
pub mod Placed
