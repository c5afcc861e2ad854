pub mod Cutting
pub mod Joining
pub mod Rooms
pub mod Trimming
