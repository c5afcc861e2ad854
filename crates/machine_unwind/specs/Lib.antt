pub use Rattle.machine_state.specs.core_meaning
pub use Rattle.machine_state.specs as machine_state
