pub mod Calls
pub mod Asserts
pub mod Caught
pub mod Endings
