pub use Rattle.py_expressions.specs.py_tokens
pub mod Depth
pub mod Sorts
pub mod Lines
pub mod Sources
pub mod Context
pub mod Verdict
