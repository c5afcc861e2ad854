mod Forms
mod Parts
mod Standing
mod Yielding
mod Parameters
