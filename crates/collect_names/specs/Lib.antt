pub use Rattle.py_kinds.specs as py_kinds
pub mod Objects
pub mod Found
pub mod Ids
