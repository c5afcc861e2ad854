pub use Rattle.live_chains.specs as live_chains
pub mod Joined
pub mod Items
pub mod Views
pub mod Resting
