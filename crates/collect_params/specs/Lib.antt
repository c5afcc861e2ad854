pub use Rattle.param_rows.specs as param_rows
pub mod Given
pub mod Values
