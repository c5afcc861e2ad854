pub use Rattle.py_machine.specs as py_machine
pub use Rattle.py_machine.specs.runner_values
pub use Rattle.py_machine.specs.source_meaning
pub mod Faults
pub mod Frames
pub mod Lines
pub mod Texts
