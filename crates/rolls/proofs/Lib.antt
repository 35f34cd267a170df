pub mod Differing
pub mod RollLaws
pub mod Searching
pub mod TwoPlaced
pub mod Filled
