pub mod Temps
pub mod Weights
pub mod Operators
