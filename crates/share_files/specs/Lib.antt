pub mod Deal
pub mod Rule
pub mod Fed
pub mod Work
