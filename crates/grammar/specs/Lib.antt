pub mod Table
pub mod Levels
pub mod Answer
pub mod Heights
pub mod Measures
