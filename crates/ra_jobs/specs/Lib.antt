pub mod Closing
pub mod Counting
pub mod Outside
pub mod Reading
pub mod Writing
