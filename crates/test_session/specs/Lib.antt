pub use Rattle.run_items.specs as run_items
pub use Rattle.session_rules.specs as session_rules
pub mod Bodies
pub mod Stacks
pub mod Demands
pub mod Collections
pub mod Runs
