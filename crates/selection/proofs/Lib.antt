pub mod Reading
pub mod Selecting
