pub mod Listed
pub mod Parking
