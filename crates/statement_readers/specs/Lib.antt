pub use Rattle.py_grammar.specs as py_grammar
pub mod Reads
pub mod Turns
pub mod Words
