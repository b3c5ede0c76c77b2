pub mod Shifted
pub mod Masks
