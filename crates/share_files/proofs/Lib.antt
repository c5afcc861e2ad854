pub mod Dealt
pub mod Views
pub mod Kept
pub mod Feeding
pub mod Ranges
pub mod Shares
pub mod Left
pub mod Saying
