pub use Rattle.collect_tree.proofs.file_source_lemmas
pub use Rattle.run_items.proofs.report_rules_lemmas
pub mod Refiled
pub mod Plans
pub mod Planned
pub mod Taken
pub mod Collection
