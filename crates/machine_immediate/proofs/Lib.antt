pub mod Parts
pub mod Operators
pub mod AtOnces
pub mod Openings
pub mod Bodies
pub mod Numbers
