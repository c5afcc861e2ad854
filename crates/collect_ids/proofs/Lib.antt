pub mod Called
pub mod Frames
pub mod Walks
pub mod TestWalk
pub mod FileWalk
