pub mod Folders
pub mod KeptFiles
pub mod OneList
pub mod Paths
pub mod Reading
pub mod ToldLemmas
