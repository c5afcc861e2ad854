pub mod Finalizers
