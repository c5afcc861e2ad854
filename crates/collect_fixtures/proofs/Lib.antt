pub mod Needs
pub mod Counts
pub mod Known
mod Steps
