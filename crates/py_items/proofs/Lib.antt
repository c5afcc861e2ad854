pub mod Keyed
pub mod Picking
pub mod Within
