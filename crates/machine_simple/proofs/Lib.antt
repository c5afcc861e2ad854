pub mod Immediately
pub mod Passing
pub mod Targets
