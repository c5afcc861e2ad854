pub use Rattle.py_kinds.specs as py_kinds
pub mod Given
pub mod Requests
