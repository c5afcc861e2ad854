pub mod Parts
pub mod AtOnce
pub mod Opened
pub mod Numbers
