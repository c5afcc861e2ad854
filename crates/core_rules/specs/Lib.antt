pub use Rattle.source_meaning.specs as source_meaning
pub mod Keeps
pub mod Exceptions
pub mod Loads
pub mod Bindings
pub mod Yields
pub mod Steps
pub mod Examples
