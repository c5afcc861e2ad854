pub mod Binding
pub mod Bodies
pub mod Lists
pub mod Same
