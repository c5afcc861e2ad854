pub mod Decorations
