pub mod Lookups
pub mod Texts
pub mod Walking
pub mod Waiting
pub mod Named
pub mod Reaching
