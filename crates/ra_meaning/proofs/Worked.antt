-- Worked examples, computed from the definitions.
pub mod Files
pub mod Lines
pub mod Sets
