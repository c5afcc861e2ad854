pub mod Placed
pub mod Tables
pub mod Own
pub mod Read
