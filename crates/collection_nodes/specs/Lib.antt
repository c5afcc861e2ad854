pub use Rattle.py_world.specs as py_world
pub mod Texts
pub mod Tree
