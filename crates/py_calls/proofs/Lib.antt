pub mod Joining
pub mod Quiet
pub mod Within
