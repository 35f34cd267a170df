pub mod Ors
pub mod Kinds
pub mod JoinLaws
pub mod Delivered
