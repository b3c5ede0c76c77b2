pub mod Contents
pub mod Fields
pub mod Grammar
pub mod Reading
pub mod Spelled
pub mod States
pub mod Tags
