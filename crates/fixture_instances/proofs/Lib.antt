pub mod Slots
pub mod Pairing
pub mod Requests
pub mod Climbs
pub mod Spent
