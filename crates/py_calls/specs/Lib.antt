pub use Rattle.sequence_calls.specs.call_products
pub use Rattle.object_calls.specs.py_attributes
pub use Rattle.object_calls.specs.py_items
pub use Rattle.object_calls.specs.py_kinds
pub use Rattle.object_calls.specs.py_operands
pub use Rattle.object_calls.specs.py_repr
pub use Rattle.pytest_calls.specs as pytest_calls
pub mod Called
pub mod Texts
pub mod Printing
pub mod Functions
pub mod Methods
pub mod Calls
