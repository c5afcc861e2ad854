pub use Rattle.hook_order.specs as hook_order
pub mod Names
pub mod Reading
pub mod Registered
pub mod Ordered
pub mod Told
