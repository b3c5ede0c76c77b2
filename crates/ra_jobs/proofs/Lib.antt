pub mod Whole
pub mod Pieces
pub mod Parts
pub mod Stays
pub mod CountLemmas
