pub mod Lines
pub mod Marks
pub mod Steps
pub mod Texts
pub mod Words
