pub use Rattle.fixture_world.proofs.report_rules_lemmas
pub mod Doings
pub mod Ready
pub mod Given
pub mod Unrun
