pub use Rattle.collect_fixtures.specs as collect_fixtures
pub use Rattle.fixture_definitions.specs as fixture_definitions
pub mod Rows
pub mod FileItems
pub mod Seen
