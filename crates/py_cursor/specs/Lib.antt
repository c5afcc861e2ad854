pub use Rattle.py_expressions.specs as py_expressions
pub use Rattle.py_tokens.specs as py_tokens
pub use Rattle.py_expressions.specs.token_kinds
pub mod Cursor
pub mod Parser
