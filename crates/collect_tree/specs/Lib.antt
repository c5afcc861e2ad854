pub use Rattle.collect_ids.specs as collect_ids
pub use Rattle.collect_items.specs as collect_items
pub use Rattle.py_load.specs.file_source
pub use Rattle.py_load.specs as py_load
pub use Rattle.fixture_world.specs.runtest_rules
pub use Rattle.fixture_world.specs.tracebacks
pub mod Walk
pub mod Loads
pub mod Conftests
pub mod ConftestsTold
pub mod Errors
pub mod Collection
pub mod Runnable
pub mod Told
