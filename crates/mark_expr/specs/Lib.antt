pub mod Answer
pub mod Expression
pub mod Grammar
pub mod Matching
pub mod Text
