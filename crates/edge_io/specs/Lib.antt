pub mod Causes
pub mod Told
pub mod Files
pub mod LoadFaults
pub mod Fakes
