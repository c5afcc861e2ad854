pub mod Finding
pub mod Joining
pub mod Walking
pub mod Named
