-- What is earned.
pub mod Frames
pub mod Items
