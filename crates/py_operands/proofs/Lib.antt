pub mod Bits
pub mod Dividing
pub mod Powers
pub mod Ranging
pub mod Repeating
pub mod Searching
