pub mod Keyed
pub mod Copies
pub mod Views
pub mod Dicts
