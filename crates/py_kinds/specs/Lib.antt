pub mod Truth
pub mod Kinds
pub mod Keys
pub mod Classes
pub mod Lengths
pub mod Builtins
