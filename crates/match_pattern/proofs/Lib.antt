pub mod Items
pub mod Marks
pub mod Meaning
pub mod Patterns
pub mod Taking
