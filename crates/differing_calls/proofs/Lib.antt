mod Apart
mod Differ
mod Comes
mod Handled
