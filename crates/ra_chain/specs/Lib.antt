pub mod Elaborates
pub mod Elaboration
pub mod Laws
pub mod Occurrence
pub mod Order
pub mod Planting
pub mod Sides
pub mod Terms
