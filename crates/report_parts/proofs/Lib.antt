pub mod BlankLemmas
pub mod Chars
