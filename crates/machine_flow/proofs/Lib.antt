pub mod Branches
pub mod Flows
pub mod Elements
pub mod Entering
pub mod Immediately
