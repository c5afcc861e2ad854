pub mod Looks
pub mod Numbers
pub mod Left
pub mod Answered
pub mod Shown
