pub use Rattle.py_expressions.proofs as py_expressions_lemmas
pub mod Ops
pub mod Loops
