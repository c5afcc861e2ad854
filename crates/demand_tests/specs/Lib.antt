pub mod Logs
pub mod Kept
