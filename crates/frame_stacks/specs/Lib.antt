pub mod Stacked
pub mod Lists
