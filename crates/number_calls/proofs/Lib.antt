pub mod Picking
pub mod Summing
