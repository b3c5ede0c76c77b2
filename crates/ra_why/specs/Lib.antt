pub mod Frames
pub mod Taking
pub mod Text
pub mod Watching
