pub mod Naming
pub mod EarlyNames
