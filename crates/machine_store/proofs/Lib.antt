pub use Rattle.machine_assign.proofs.machine_turns_lemmas
pub mod Attributes
pub mod Begins
pub mod Immediately
pub mod Looked
pub mod Passing
