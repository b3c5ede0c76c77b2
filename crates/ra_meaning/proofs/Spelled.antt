-- What texts spell.
pub mod Scripts
pub mod Sets
pub mod Trees
pub mod Lines
