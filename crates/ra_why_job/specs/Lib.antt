pub mod Choosing
pub mod Says
pub mod Watching
