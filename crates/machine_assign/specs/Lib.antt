pub use Rattle.machine_turns.specs.core_meaning
pub use Rattle.machine_turns.specs.machine_items
pub use Rattle.machine_turns.specs.machine_state
pub use Rattle.machine_turns.specs.py_world
