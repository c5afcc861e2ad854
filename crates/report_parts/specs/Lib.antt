pub mod Blanks
pub mod Exceptions
pub mod Limits
pub mod Outcomes
