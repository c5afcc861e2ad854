pub use Rattle.call_products.specs as call_products
pub use Rattle.call_products.specs.py_kinds
pub use Rattle.call_products.specs.py_operands
pub mod Characters
pub mod Pieces
pub mod Methods
pub mod Joins
