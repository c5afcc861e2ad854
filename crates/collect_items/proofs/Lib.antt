pub use Rattle.collect_fixtures.proofs as collect_fixtures_lemmas
pub use Rattle.collect_rows.proofs as collect_rows_lemmas
pub mod Files
pub mod Numbers
pub mod Places
pub mod Steps
