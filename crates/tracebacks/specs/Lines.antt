-- The lines of sources, as the machine has them.
pub use Rattle.py_machine.specs.Lines.{source_line, told_line}
