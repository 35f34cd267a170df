pub mod Cells
pub mod Written
pub mod GridLaws
pub mod Fillings
pub mod Filled
pub mod LawsHold
pub mod Padded
pub mod Layouts
