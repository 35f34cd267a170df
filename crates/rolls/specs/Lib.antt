pub mod Rolls
pub mod Faults
pub mod Loans
