pub use Rattle.py_items.specs as py_items
pub use Rattle.py_items.specs.py_operands
pub mod Attributes
