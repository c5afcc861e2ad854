pub mod Lines
pub mod Made
pub mod Ladder
pub mod Texts
pub mod Shapes
pub mod Items
pub mod Trailers
pub mod Chains
