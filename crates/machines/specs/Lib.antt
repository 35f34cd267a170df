pub mod Models
pub mod Tables
pub mod Built
pub mod BuildLaws
