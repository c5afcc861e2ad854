pub use Rattle.sorting.specs as sorting
pub mod Search
pub mod Lists
