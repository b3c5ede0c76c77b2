pub mod Failures
pub mod Printing
pub mod Told
pub mod Watching
