pub mod Good
pub mod Heights
mod Levels
mod Forks
pub mod Laws
pub mod Verdicts
mod Examples
