-- What is kept and told is of numbers of 32 bits.
pub mod Cells
pub mod Groups
pub mod Items
pub mod Members
pub mod Presence
pub mod Trees
