pub use Rattle.machine_state.specs.core_meaning
pub use Rattle.machine_items.specs as machine_items
pub use Rattle.machine_state.specs as machine_state
pub use Rattle.machine_state.specs.py_world
