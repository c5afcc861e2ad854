pub mod Exprs
pub mod Reading
