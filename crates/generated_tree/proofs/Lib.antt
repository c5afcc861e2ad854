pub mod Rows
pub mod Texts
pub mod Order
pub mod Kept
pub mod Sizes
pub mod Made
