pub mod Good
pub mod Heights
