-- How many things a set has and keeps.
pub mod FewCells
pub mod Fitting
pub mod Items
pub mod Masks
pub mod SmallShape
pub mod Trees
pub mod Lines
