pub mod Failing
pub mod Simple
