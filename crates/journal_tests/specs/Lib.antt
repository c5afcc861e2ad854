pub mod OneGroup
pub mod Plans
