pub mod Tree
pub mod Nearest
pub mod Closing
pub mod Faults
pub mod Marks
pub mod Index
pub mod Tables
