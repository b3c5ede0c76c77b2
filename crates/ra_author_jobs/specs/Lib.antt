pub mod Texts
pub mod Expected
pub mod Importing
