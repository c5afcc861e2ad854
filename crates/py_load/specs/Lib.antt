pub use Rattle.file_source.specs as file_source
pub mod Reading
pub mod Prepared
pub mod Loading
pub mod InTurn
