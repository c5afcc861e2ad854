pub mod Rings
pub mod Arena
