pub mod Fields
pub mod FlatRows
pub mod LateRows
pub mod Rows
