pub mod Layout
pub mod Lexemes
pub mod Places
pub mod Reading
pub mod Words
