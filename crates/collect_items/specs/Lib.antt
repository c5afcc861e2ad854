pub use Rattle.collect_fixtures.specs as collect_fixtures
pub use Rattle.fixture_definitions.specs as fixture_definitions
pub use Rattle.collect_rows.specs as collect_rows
pub mod Chosen
pub mod Items
pub mod Nodes
pub mod Reads
