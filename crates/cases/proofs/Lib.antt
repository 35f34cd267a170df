pub mod Walking
pub mod Painting
pub mod Judging
pub mod Presses
pub mod Answering
pub mod Fitting
