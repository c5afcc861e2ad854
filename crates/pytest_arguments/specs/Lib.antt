pub use Rattle.call_products.specs as call_products
pub use Rattle.call_products.specs.py_operands
pub mod Forms
pub mod Given
