pub mod Left
