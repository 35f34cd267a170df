pub mod Held
pub mod Shown
pub mod Filling
pub mod Builds
pub mod Steps
pub mod TableLaws
pub mod Laying
