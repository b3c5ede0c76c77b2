pub mod Operands
pub mod Printing
