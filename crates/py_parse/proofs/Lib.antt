pub use Rattle.statement_readers.proofs.py_grammar_lemmas
pub mod Faults
pub mod Verdicts
