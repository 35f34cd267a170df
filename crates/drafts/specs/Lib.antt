pub mod Calls
pub mod Drawn
pub mod Canonical
pub mod CallLaws
pub mod Words
pub mod WordLaws
