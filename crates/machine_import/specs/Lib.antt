pub mod Dotted
pub mod Walks
pub mod Codes
pub mod Names
pub mod Lookups
