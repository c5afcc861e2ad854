pub mod Equal
pub mod Order
pub mod Same
