pub mod Groups
pub mod Noting
pub mod Pairs
