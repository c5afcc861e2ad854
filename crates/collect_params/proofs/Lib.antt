mod Steps
mod Digits
