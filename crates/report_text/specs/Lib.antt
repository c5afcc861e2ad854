pub use Rattle.report_blocks.specs as report_blocks
pub mod Conftest
pub mod Head
pub mod Progress
pub mod Summary
