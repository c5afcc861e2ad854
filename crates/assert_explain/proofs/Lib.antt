pub mod Counted
pub mod Shortened
pub mod Evaluated
pub mod Facts
pub mod Lines
pub mod Joining
pub mod Forms
