pub mod Beginning
pub mod Opened
