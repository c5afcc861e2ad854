pub mod Matching
pub mod Pattern
pub mod Reading
pub mod Searching
