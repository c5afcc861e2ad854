pub use Rattle.collect_marks.specs as collect_marks
pub use Rattle.collect_names.specs as collect_names
pub use Rattle.fixture_calls.specs as fixture_calls
pub use Rattle.py_world.specs as py_world
pub use Rattle.report_rules.specs as report_rules
pub use Rattle.test_suite.specs as test_suite
pub use Rattle.tracebacks.specs as tracebacks
pub mod Language
pub mod Objects
pub mod Failures
pub mod Phases
pub mod Rules
