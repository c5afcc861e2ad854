pub mod Paths
pub mod Walks
pub mod Keys
pub mod Words
pub mod Files
pub mod Nodes
pub mod Index
