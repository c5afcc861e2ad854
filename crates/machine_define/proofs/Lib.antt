pub mod Classes
pub mod Decorating
pub mod Defaults
pub mod Functions
