pub use Rattle.py_kinds.specs as py_kinds
pub mod Numbers
pub mod Sequences
pub mod Attempts
pub mod Faults
pub mod Ranges
pub mod Texts
pub mod Search
