pub use Rattle.machine_turns.proofs as machine_turns_lemmas
pub mod Ends
pub mod Catching
