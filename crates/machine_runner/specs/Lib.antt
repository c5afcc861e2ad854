pub use Rattle.machine_state.specs.Lines
pub mod Begun
pub mod Looking
pub mod Openings
