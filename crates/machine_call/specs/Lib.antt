pub mod Depth
pub mod Called
pub mod Products
