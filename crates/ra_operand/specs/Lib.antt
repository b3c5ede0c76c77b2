pub mod Canonical
pub mod Fitting
pub mod Grammar
pub mod Operators
pub mod Reading
pub mod Same
pub mod Views
