pub mod Standing
pub mod Yielding
