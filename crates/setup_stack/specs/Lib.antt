pub use Rattle.fixture_instances.specs as fixture_instances
pub mod Grants
pub mod Views
pub mod Making
pub mod Borne
pub mod Asking
pub mod Scopes
pub mod Standing
pub mod SetUps
pub mod Passing
