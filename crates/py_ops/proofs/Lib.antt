pub mod Judging
pub mod Keyed
pub mod Parting
pub mod Ranging
pub mod Searching
pub mod Within
