pub use Rattle.collect_items.specs as collect_items
pub mod Hook
pub mod Runs
pub mod Asking
pub mod Files
pub mod Told
