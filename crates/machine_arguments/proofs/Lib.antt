pub mod NamedParameters
pub mod Shapes
