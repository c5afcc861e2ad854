pub use Rattle.fixture_world.specs as fixture_world
pub use Rattle.fixture_world.specs.fixture_calls.source_meaning
pub use Rattle.runtest_reports.specs.report_rules
pub use Rattle.fixture_world.specs.runtest_rules
pub use Rattle.test_suite.specs as test_suite
pub mod Texts
pub mod Stands
pub mod Hooking
pub mod Runs
pub mod NotRun
