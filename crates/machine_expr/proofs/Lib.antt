pub mod Pairs
pub mod Displays
pub mod Rows
pub mod Noted
pub mod Weights
