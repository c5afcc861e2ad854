pub mod Same
pub mod Asked
pub mod Values
pub mod Left
pub mod Course
