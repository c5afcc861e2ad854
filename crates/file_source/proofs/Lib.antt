pub mod Laid
pub mod OneSource
pub mod Read
