pub mod LeftLemmas
pub mod SlotRefusals
