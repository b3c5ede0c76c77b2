-- Who reads which node.
pub mod NoteLemmas
pub mod Rows
pub mod WakeLemmas
