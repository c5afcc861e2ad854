pub mod Bases
pub mod Defaults
