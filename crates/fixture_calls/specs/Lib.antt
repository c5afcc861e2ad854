pub use Rattle.py_machine.specs.source_meaning
pub mod Failing
pub mod Arguments
pub mod Asking
pub mod Calls
pub mod Yields
pub mod Hooks
