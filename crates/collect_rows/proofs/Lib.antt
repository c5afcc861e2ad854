pub use Rattle.param_rows.proofs as param_rows_lemmas
pub use Rattle.collect_fixtures.proofs as collect_fixtures_lemmas
pub mod Seen
mod Steps
mod Walks
