pub use Rattle.py_tokens.specs as py_tokens
pub mod Numbers
pub mod Kinds
