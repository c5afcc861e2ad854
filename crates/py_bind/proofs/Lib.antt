pub mod Answers
pub mod Bindings
pub mod Paths
pub mod Places
