pub use Rattle.machine_turns.proofs as machine_turns_lemmas
pub mod Begins
pub mod Places
pub mod Taking
