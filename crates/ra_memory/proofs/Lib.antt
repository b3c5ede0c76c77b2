pub mod Raw
pub mod Written
