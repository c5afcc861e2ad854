pub mod Chosen
pub mod Sessions
pub mod Phases
