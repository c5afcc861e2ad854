pub use Rattle.token_kinds.specs.py_tokens
pub use Rattle.token_kinds.specs as token_kinds
pub mod Values
pub mod Sorts
pub mod Lines
