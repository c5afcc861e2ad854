pub mod Beside
pub mod Objects
pub mod HookCalls
pub mod Phases
pub mod Items
pub mod Ended
pub mod Rows
