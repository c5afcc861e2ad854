pub use Rattle.call_products.specs as call_products
pub mod Ranges
pub mod Sequences
pub mod Truths
pub mod Calls
