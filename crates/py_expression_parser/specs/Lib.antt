pub mod Reads
pub mod Pieces
