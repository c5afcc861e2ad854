pub use Rattle.py_load.proofs.file_source_lemmas
pub use Rattle.fixture_world.proofs.runtest_rules_lemmas
pub use Rattle.py_load.proofs as py_load_lemmas
pub mod Walks
pub mod Turns
pub mod ReadPaths
pub mod Once
pub mod Made
pub mod Runnable
pub mod Fits
pub mod Ends
pub mod ConftestFiles
pub mod Hooked
pub mod FileErrors
pub mod Finds
pub mod Ordered
