pub mod Hooks
pub mod Suites
