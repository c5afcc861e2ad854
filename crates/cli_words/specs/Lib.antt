pub mod Faults
pub mod Info
pub mod Options
pub mod Parts
pub mod Table
pub mod Values
