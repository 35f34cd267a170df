pub mod Tests
pub mod Signs
pub mod Sets
pub mod Held
pub mod Drafts
pub mod Shown
