pub mod Going
pub mod Found
