pub use Rattle.file_source.proofs as file_source_lemmas
pub mod Readings
pub mod Absent
pub mod Adding
