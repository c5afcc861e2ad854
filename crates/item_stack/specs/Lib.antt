pub use Rattle.fixture_instances.specs as fixture_instances
pub use Rattle.setup_stack.specs as setup_stack
pub mod States
pub mod Plain
pub mod Answers
pub mod Leaving
