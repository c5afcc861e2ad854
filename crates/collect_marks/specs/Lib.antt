pub use Rattle.collect_names.specs as collect_names
pub use Rattle.collect_names.specs.py_kinds
pub mod Given
pub mod Names
pub mod Says
pub mod Verdicts
