pub mod BoardLoop
pub mod BoardReaders
pub mod BoardStructure
pub mod FieldReaders
pub mod HeldLemmas
pub mod TagLemmas
