pub mod Contents
pub mod Counting
pub mod Laws
pub mod Meaning
pub mod Text
pub mod Words
