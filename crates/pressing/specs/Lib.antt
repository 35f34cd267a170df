pub mod Pressed
pub mod Sources
pub mod Press
pub mod Law
pub mod Verdicts
