pub mod Answers
pub mod Binding
pub mod Modules
