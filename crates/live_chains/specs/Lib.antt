pub mod Down
pub mod Plain
pub mod Chained
pub mod Walked
