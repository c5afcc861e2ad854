pub mod GrammarLaws
pub mod Main
pub mod Meaning
pub mod Rows
pub mod Same
pub mod Steps
pub mod TokenLaws
