pub mod Choosing
pub mod Goals
pub mod Named
