pub mod AlongLemmas
mod BoundsLemmas
mod Carried
pub mod CountingLemmas
pub mod HandedLemmas
mod LawLemmas
mod OutcomeLemmas
mod PassLemmas
mod PlainLemmas
pub mod TallyLemmas
mod TextOrder
mod TurnLemmas
mod Turns
pub mod Vectors
