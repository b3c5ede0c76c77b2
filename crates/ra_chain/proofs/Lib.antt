pub mod JoinLemmas
mod LawLemmas
mod Marks
mod NoPauses
pub mod OrderPlaces
mod Pauses
pub mod PlantLemmas
pub mod SideLemmas
pub mod TakeLemmas
pub mod TermLemmas
pub mod ValueLemmas
pub mod WalkLemmas
