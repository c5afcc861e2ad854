pub mod Fixtures
pub mod Hooks
pub mod Params
pub mod Raising
pub mod Finalizers
pub mod Calls
pub mod Marks
pub mod Swallowing
