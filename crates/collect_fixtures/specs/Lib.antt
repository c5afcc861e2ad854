pub mod Tables
pub mod Closures
