pub mod Chars
pub mod Literals
pub mod Numbers
