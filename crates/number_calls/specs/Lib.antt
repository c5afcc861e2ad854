pub use Rattle.text_methods.specs as text_methods
pub mod Numbers
pub mod Texts
pub mod Sums
pub mod Best
pub mod Calls
