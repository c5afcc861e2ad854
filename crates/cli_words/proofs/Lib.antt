pub mod Notices
pub mod Settings
pub mod Numbers
pub mod Cuts
pub mod Outcomes
pub mod Letters
pub mod Says
pub mod Cut
