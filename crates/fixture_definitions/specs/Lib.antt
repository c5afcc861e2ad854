pub use Rattle.collect_params.specs as collect_params
pub mod Arguments
pub mod Definitions
pub mod Tests
