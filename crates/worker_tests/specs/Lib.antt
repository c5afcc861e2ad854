pub mod Letters
pub mod Timed
