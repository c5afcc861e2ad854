mod Free
mod Distinct
mod Tables
mod Product
mod Zipped
mod Short
mod Groups
mod Shuffled
mod Gathered
pub mod Regrouped
