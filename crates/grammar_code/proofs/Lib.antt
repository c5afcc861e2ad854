pub mod Plain
pub mod Walk
