pub mod Ranges
pub mod Splits
pub mod Once
pub mod Order
pub mod Picks
pub mod Colons
pub mod FirstWords
pub mod Index
