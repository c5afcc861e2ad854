pub use Rattle.py_operands.specs.py_kinds
pub use Rattle.py_operands.specs as py_operands
pub mod Products
pub mod Arguments
pub mod Elements
