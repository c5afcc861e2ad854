pub use Rattle.collect_tree.specs as collect_tree
pub use Rattle.run_items.specs as run_items
pub mod Project
pub mod Sessions
