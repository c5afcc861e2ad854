pub mod Given
pub mod Shapes
