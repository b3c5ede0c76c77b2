pub mod Gathering
pub mod Kept
pub mod Laws
pub mod Lends
pub mod States
pub mod Steps
