pub mod Appending
pub mod Reports
pub mod Scans
