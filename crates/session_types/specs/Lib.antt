pub mod Members
pub mod Numbers
pub mod Spans
pub mod Scopes
pub mod Live
