pub mod Groups
pub mod Plans
