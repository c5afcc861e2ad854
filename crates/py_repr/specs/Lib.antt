pub use Rattle.py_kinds.specs as py_kinds
pub mod Symbols
pub mod Showing
pub mod Adding
pub mod Words
pub mod Repr
