pub use Rattle.py_grammar.proofs as py_grammar_lemmas
pub mod Expressions
pub mod Turns
pub mod Rounds
pub mod Pieces
pub mod SimpleLines
pub mod BlockLines
pub mod Takes
pub mod Loops
pub mod Signatures
pub mod Suites
