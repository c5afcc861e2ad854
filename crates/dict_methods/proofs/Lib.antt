pub mod Paying
pub mod Storing
