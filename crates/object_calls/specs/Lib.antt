pub use Rattle.call_products.specs.py_kinds
pub use Rattle.py_attributes.specs as py_attributes
pub use Rattle.py_attributes.specs.py_items
pub use Rattle.py_attributes.specs.py_operands
pub use Rattle.py_repr.specs as py_repr
pub mod Reprs
pub mod Kinds
pub mod Attributes
pub mod Calls
