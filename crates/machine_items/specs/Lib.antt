pub mod Changes
pub mod Raising
pub mod Storing
